-- What `glue` makes of a coverage in tiles that agrees, and what the tree holds then.
use Rattle.std.specs.Prelude.{◌≡◌, List, Some}
use Rattle.vpf_source.specs.Files.{Files}
use Rattle.vpf_source.specs.Making.{with_all}
use Rattle.vpf_source.specs.declared.file.File.{File}
use Rattle.vpf_library_commands.specs.declared.requesting.MakeRequest.{MakeRequest}
use Rattle.vpf_library_commands.specs.Gluing.{IsGluing}

-- Before, the tree held a coverage in tiles that agrees with its features. After, it holds what it held, and with it the files of the coverage that the
-- tiles are glued to, and of its features.
pub record IsJoining (before after : Files) (request : MakeRequest) : Type 0 where
  pub made : List File
  pub glued : IsGluing before request made
  pub held : with_all made (Some before) ≡ Some after
