use Rattle.vpf_library_files.proofs.loading.LibraryFiles.{files_are_libraries}
use Rattle.vpf_library_files.proofs.loading.WholeFiles.{files_are_whole}
use Rattle.vpf_library_files.proofs.loading.laws.files_are_libraries.Goals as goal

pub returns-clause-library : goal.returns-clause-library
returns-clause-library c = files_are_libraries

pub returns-clause-whole : goal.returns-clause-whole
returns-clause-whole c = files_are_whole c.spelled_is_read.ensures c.read_headers_are_sound.ensures
