use Rattle.std.proofs.Common.{◌≡◌, Some}
use Rattle.vpf_library_files.proofs.loading.LoadLemmas.{loaded_is}
use Rattle.vpf_library_files.proofs.loading.loading.files.found_in.Goals as goal

pub returns-in-Ok-Some-clause-finds : goal.returns-in-Ok-Some-clause-finds
returns-in-Ok-Some-clause-finds c file h =
    let given = rw (c.in-Ok-Some.is, c.in-Ok-Some.field-0-is, c.in-Ok-Some.bytes-is) at h in
    let found : file ≡ Some c.in-Ok-Some.bytes.items = loaded_is file c.in-Ok-Some.bytes.items given in
    rw found c.counted.ensures.finds
