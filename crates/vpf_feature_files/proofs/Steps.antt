-- What comes of reading one thing after another.
use Rattle.std.proofs.Common.{[], ◌≡◌, ◌∙◌, ℕ, List, ◌++◌, Option, Some, Ok, Err, refl, sym, ap, append_assoc, Vec, Global}
use Rattle.std.specs.Prelude.{Result, option_map}
use Rattle.vpf_source.specs.Files.{Files}
use Rattle.vpf_library_files.specs.declared.loading.loading.LoadStop.{LoadStop}
use Rattle.vpf_library_files.specs.Loading.Loading.{Read, ◌and_then◌, stop_seen}
use Rattle.vpf_library_files.specs.Loading.Loads.{LoadsAs, ReadsStop, ReadsValue}
use Rattle.vpf_library_files.specs.Inner.Loading.StepLaws.{gives}
use Rattle.vpf_tiling.specs.Inner.Plan.ReadLaws.{valued, ends_so}

same_outcome : {V : Type 0} (x y : V) → valued x ≡ valued y → x ≡ y
same_outcome x y e = cc

no_outcome : {V : Type 0} (v : V) (stop : LoadStop) → Err stop ≡ valued v → ⊥
no_outcome v stop e = cc

pub ends : {V W : Type 0} (next : V → ℕ → Read W) (read : Read V) (n : ℕ) (stop : LoadStop) → ReadsStop stop n read → ReadsStop stop n (read and_then next)
ends next read n stop h = ends_so next read n (stop_seen stop) h

-- what is read comes to what is read after its first step, which came to a value
pub goes_on : {V W A : Type 0} (told now : Option Files) (first : Files → Read V) (next : Files → V → ℕ → Read W) (Is : A → W → Type 0) (v : V) (n k : ℕ)
    (result : Result A LoadStop) → now ≡ told → ((held : Files) → told ≡ Some held → first held ≡ (Ok v, n)) → LoadsAs now (λ held. next held v n) Is result k
    → LoadsAs told (λ held. first held and_then next held) Is result k
goes_on told now first next Is v n k (Ok a) same e h = record { value = h.value; is = h.is; comes = λ held t. rw (e held t) (h.comes held (same ∙ t)) }
goes_on told now first next Is v n k (Err stop) same e h = λ held t. rw (e held t) (h held (same ∙ t))

-- the bytes that were found
pub found_is : (found : Option (Vec ℕ Global)) (n : ℕ) (read : Read (Option (List ℕ)))
    → ReadsValue (λ (v : Option (Vec ℕ Global)) (file : Option (List ℕ)). file ≡ option_map (λ (x : Vec ℕ Global). x.items) v) found n read
    → read ≡ (Ok (option_map (λ (x : Vec ℕ Global). x.items) found), n)
found_is found n read h = h.comes ∙ ap (λ (x : Option (List ℕ)). gives x n) h.is

-- ---- lists that are read piece by piece

-- what is still to be read, behind what was
abbrev pub behind : {V : Type 0} → List V → List V → ℕ → Read (List V)
behind done rest n = (Ok (done ++ rest), n)

pub behind_none : {V : Type 0} (read : Read (List V)) → read ≡ (read and_then behind [])
behind_none (Ok rest, n) = refl
behind_none (Err stop, n) = refl

pub behind_both : {V : Type 0} (done more : List V) (read : Read (List V)) → ((read and_then behind more) and_then behind done) ≡ (read and_then behind (done ++ more))
behind_both done more (Ok rest, n) = ap (λ (x : List _). gives x n) (sym (append_assoc done more rest))
behind_both done more (Err stop, n) = refl
