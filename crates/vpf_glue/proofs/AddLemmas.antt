-- Tables that are added one behind another, up to the first that isn't.
use Rattle.std.proofs.Common.{◌≡◌, ◌≢◌, ℕ, refl, List, [], ◌∷◌, Option, None, Some, Result, Ok, Err}
use Rattle.vpf_source.specs.declared.file.File.{File}
use Rattle.vpf_triplet.specs.declared.places.Part.{Part}
use Rattle.vpf_table.specs.declared.limit.Limit.{Limit as Passed}
use Rattle.vpf_table.specs.Grid.{Grid}
use Rattle.vpf_findings.specs.Firsts.{◌or◌}
use Rattle.vpf_write.specs.Writing.{Writes, first_limit}
use Rattle.vpf_write.specs.declared.writing.WriteError.{WriteError}
use Rattle.vpf_write.specs.declared.writing.WriteError.TheVariants as stops
use Rattle.vpf_library_files.specs.declared.table_files.errors.AddError.{AddError}
use Rattle.vpf_library_files.specs.TableFiles.Adding.{Adds, AreAdded, FailsAdding, NamedTable, named_limit, named_table}
use Rattle.vpf_library_files.specs.Inner.TableFiles.AddLaws.{adds_then, fails_first, fails_then}

-- the first table isn't added
pub first_fails : (x : NamedTable) (xs : List NamedTable) (e : AddError) → FailsAdding (x ∷ []) e → FailsAdding (x ∷ xs) e
first_fails x xs e a = fails_first (x ∷ []) xs e a

-- it is, and some of the others aren't
pub next_fails : (x : NamedTable) (xs : List NamedTable) (old mid : List File) (e : AddError) → AreAdded (x ∷ []) old mid → FailsAdding xs e → FailsAdding (x ∷ xs) e
next_fails x xs old mid e a b = fails_then (x ∷ []) xs old mid e a b

-- or the others are or aren't
pub next_adds : {V : Type 0} (x : NamedTable) (xs : List NamedTable) (old mid new : List File) (r : Result V AddError) → AreAdded (x ∷ []) old mid → Adds xs mid new r
    → Adds (x ∷ xs) old new r
next_adds x xs old mid new r a b = adds_then (x ∷ []) xs old mid new r a b

-- a table that passes a limit is never added, so the others don't matter
limited : (name : List ℕ) (o : Option (Part × Passed)) (s : Part × Passed) → o ≡ Some s → (named_limit name o or None) ≡ None → ⊥
limited name None s e h = absurd cc
limited name (Some x) s e h = absurd cc

pub limit_adds : {V : Type 0} (name : List ℕ) (g : Grid) (e : WriteError) (xs : List NamedTable) (old new : List File) (r : Result V AddError) → Writes g (Err e) → e ≢ stops.NoMemory
    → Adds (named_table name g ∷ []) old new r → Adds (named_table name g ∷ xs) old new r
limit_adds name g (stops.Limit part limit) xs old new (Ok v) w some a = absurd (limited name (first_limit g) (part, limit) w a.0)
limit_adds name g stops.NoMemory xs old new (Ok v) w some a = absurd (some refl)
limit_adds name g e xs old new (Err error) w some a = fails_first (named_table name g ∷ []) xs error a
