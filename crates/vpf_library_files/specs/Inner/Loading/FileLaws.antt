-- Lists of files that a tree holds.
use Rattle.std.proofs.Common.{[], ◌≡◌, ◌+◌, List, ◌∷◌, ◌++◌, arith}
use Rattle.vpf_source.specs.Files.{Files}
use Rattle.vpf_source.specs.declared.file.File.{File}
use Rattle.vpf_library_files.specs.Loading.Holding.{AreHeld, bytes_in}

-- files behind others are held as those are
pub both_held : (held : Files) (a b : List File) → AreHeld held (a ++ b) → AreHeld held a × AreHeld held b
both_held held [] b h = (tt, h)
both_held held (file ∷ a) b h = let rest = both_held held a b h.2 in ((h.0, h.1, rest.0), rest.1)

pub held_both : (held : Files) (a b : List File) → AreHeld held a → AreHeld held b → AreHeld held (a ++ b)
held_both held [] b g h = h
held_both held (file ∷ a) b g h = (g.0, g.1, held_both held a b g.2 h)

-- their bytes are counted one list after the other
pub bytes_of_both : (a b : List File) → bytes_in (a ++ b) ≡ bytes_in a + bytes_in b
bytes_of_both [] b = omega arith
bytes_of_both (file ∷ a) b = let rest = bytes_of_both a b in omega (arith, rest)
