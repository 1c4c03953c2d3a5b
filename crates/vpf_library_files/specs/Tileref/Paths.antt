-- The paths of tiles, folder by folder (MIL-STD-2407, 5.3, tile reference coverage).
use Rattle.std.specs.Prelude.{◌≢◌, ℕ, ◌≤◌, ◌==◌, ◌&&◌, ◌||◌, Bool, not, List, [], All, Option, Some, None, codes, filter, length, if◌then◌else◌}
use Rattle.std.specs.Cmp.Lexicographic.{pointwise}
use Rattle.std.specs.List.{list_all, slice_split}
use Rattle.std.specs.Str.{bytes_eq}
use Rattle.vpf_base.specs.Bytes.{backslash}
use Rattle.vpf_source.specs.Names.Naming.{slash, joined_parts}
use Rattle.vpf_source.specs.Names.Items.{is_plain_name, small, trimmed}

-- the path of a tile: the names of its folders, from the outermost on
abbrev pub TilePath : Type 0
TilePath = List (List ℕ)

-- a slash of either sort
abbrev pub is_slash : ℕ → Bool
is_slash b = b == slash || b == backslash

-- a name that isn't empty
abbrev pub is_some_name : List ℕ → Bool
is_some_name name = not (length name == 0)

-- the names between the slashes of a text, without those that are empty
abbrev pub folders_in : List ℕ → TilePath
folders_in text = filter is_some_name (slice_split is_slash text)

-- the path that a text names: the padding around it is dropped, and its letters are made small
abbrev pub path_of : List ℕ → TilePath
path_of text = folders_in (small (trimmed text))

-- there is a folder, and each has a name that a folder can have
abbrev pub is_path : TilePath → Bool
is_path path = not (length path == 0) && list_all is_plain_name path

-- two paths are the same, folder by folder
abbrev pub same_path : TilePath → TilePath → Bool
same_path = pointwise bytes_eq

-- a path in one text, with a slash between any two folders
abbrev pub path_text : TilePath → List ℕ
path_text = joined_parts

-- that text of the path that a text names; none where that is no path
abbrev pub text_of_path : TilePath → Option (List ℕ)
text_of_path path = if is_path path then Some (path_text path) else None

-- a byte of a folder's name
pub record IsLetter (b : ℕ) : Type 0 where
  pub from_first : 33 ≤ b
  pub to_last : b ≤ 126
  pub straight : b ≢ slash
  pub other : b ≢ backslash

-- a name that a folder can have: it names neither its folder nor the one around it
pub record IsFolder (name : List ℕ) : Type 0 where
  pub some : name ≢ []
  pub here : name ≢ codes "."
  pub around : name ≢ codes ".."
  pub letters : All IsLetter name

-- a path of some folders
pub record IsPath (path : TilePath) : Type 0 where
  pub some : path ≢ []
  pub folders : All IsFolder path
