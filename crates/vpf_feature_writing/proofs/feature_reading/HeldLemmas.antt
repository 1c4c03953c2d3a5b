-- Files that are made one after another, and held so by a tree.
use Rattle.std.proofs.Common.{[], ◌≡◌, ℕ, ◌+◌, ◌≤◌, List, ◌∷◌, ◌++◌, length, nat_le, true, Some, None, Result, Ok, Err, refl, sym, ap, subst, arith}
use Rattle.std.proofs.lemmas.Bool.{le-leb}
use Rattle.vpf_base.specs.Limits.{most_bytes}
use Rattle.vpf_source.specs.Files.{Files}
use Rattle.vpf_source.specs.declared.file.File.{File}
use Rattle.vpf_library_files.specs.Loading.Holding.{AreHeld, bytes_in}
use Rattle.vpf_library_files.specs.Loading.Loading.{loaded_file, most_loaded, read_bytes, read_optional}
use Rattle.vpf_library_files.specs.Inner.Loading.FileLaws.{both_held, bytes_of_both}
use Rattle.vpf_feature_writing.specs.Making.{Made, made_then}
use Rattle.vpf_feature_writing.specs.Inner.FeatureReading.HeldLaws.{ok_is, no_ok}

-- a tree holds some files, and they pass no limit behind so many bytes
pub record AreFit (held : Files) (files : List File) (loaded : ℕ) : Type 0 where
  pub there : AreHeld held files
  pub few : loaded + bytes_in files ≤ most_loaded

-- two lists of files that were made, one behind the other
pub record AreParts (held : Files) (first later : Made) (made : List File) (loaded : ℕ) : Type 0 where
  pub front : List File
  pub rest : List File
  pub front_made : first ≡ Ok front
  pub rest_made : later ≡ Ok rest
  pub front_fit : AreFit held front loaded
  pub rest_fit : AreFit held rest (loaded + bytes_in front)
  pub sum : loaded + bytes_in front + bytes_in rest ≡ loaded + bytes_in made

parts_of : (held : Files) (front rest made : List File) (loaded : ℕ) → front ++ rest ≡ made → AreFit held made loaded
    → AreParts held (Ok front) (Ok rest) made loaded
parts_of held front rest made loaded are fit =
    let both = both_held held front rest (subst (AreHeld held) (sym are) fit.there) in
    let whole = ap bytes_in are in
    let sum = bytes_of_both front rest in
    let few = fit.few in
    record {
      front = front;
      rest = rest;
      front_made = refl;
      rest_made = refl;
      front_fit = record { there = both.0; few = omega (arith, whole, sum, few) };
      rest_fit = record { there = both.1; few = omega (arith, whole, sum, few) };
      sum = omega (arith, whole, sum);
    }

pub parts_are : (held : Files) (first later : Made) (made : List File) (loaded : ℕ) → made_then first later ≡ Ok made → AreFit held made loaded
    → AreParts held first later made loaded
parts_are held (Ok front) (Ok rest) made loaded e fit = parts_of held front rest made loaded (ok_is (front ++ rest) made e) fit
parts_are held (Ok front) (Err error) made loaded e fit = absurd (no_ok made error e)
parts_are held (Err error) later made loaded e fit = absurd (no_ok made error e)

-- where none are made nothing is read of them
pub no_files : {V : Type 0} (made : List File) (n : ℕ) → ◌≡◌ {A = Result (List File) V} (Ok []) (Ok made) → n ≡ n + bytes_in made
no_files made n e =
    let none : [] ≡ made = cc e in
    let size = ap bytes_in none in
    omega (arith, size)

-- ---- what is read

within_limits : (name bytes : List ℕ) (n : ℕ) → length bytes ≤ most_bytes → n + length bytes ≤ most_loaded
    → read_bytes name bytes n ≡ (Ok (Some bytes), n + length bytes)
within_limits name bytes n few sum =
    let one : nat_le (length bytes) most_bytes ≡ true = le-leb (length bytes) most_bytes few in
    let all : nat_le (n + length bytes) most_loaded ≡ true = le-leb (n + length bytes) most_loaded sum in
    rw (one, all) refl

-- a file that is held is read
pub file_read : (held : Files) (name bytes : List ℕ) (n : ℕ) → held name ≡ Some bytes → length bytes ≤ most_bytes → n + length bytes ≤ most_loaded
    → read_optional held name n ≡ (Ok (Some bytes), n + length bytes)
file_read held name bytes n e few sum = rw (e, within_limits name bytes n few sum) refl

-- the only file
pub one_read : (held : Files) (name bytes : List ℕ) (n : ℕ) → AreFit held (loaded_file name bytes ∷ []) n
    → read_optional held name n ≡ (Ok (Some bytes), n + length bytes)
one_read held name bytes n fit = let few = fit.few in file_read held name bytes n fit.there.0 fit.there.1 (omega (arith, few))

-- a file that isn't there isn't read
pub none_read : (held : Files) (name : List ℕ) (n : ℕ) → held name ≡ None → read_optional held name n ≡ (Ok None, n)
none_read held name n e = rw e refl
