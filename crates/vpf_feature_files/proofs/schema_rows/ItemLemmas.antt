-- Names in small letters.
use Rattle.std.proofs.Common.{◌≡◌, ◌∙◌, ◌-◌, ℕ, List, drop, take, length, ap, sym}
use Rattle.std.proofs.Math.Seq.{take-length}
use Rattle.std.proofs.lemmas.List.{drop-map, length-drop, length-map}
use Rattle.std.specs.Char.{to_ascii_lowercase}
use Rattle.vpf_source.specs.Names.Items.{small}
use Rattle.vpf_feature_files.specs.SchemaRows.Items.{last_bytes}

-- the end of a name in small letters is its end, in small letters
small_end : (n k : ℕ) (name : List ℕ) → k ≡ length name - n → small (drop k name) ≡ last_bytes n (small name)
small_end n k name at =
    sym (drop-map to_ascii_lowercase k name) ∙ ap (λ (j : ℕ). drop j (small name)) (at ∙ ap (λ (m : ℕ). m - n) (sym (length-map name to_ascii_lowercase)))

-- the same of the end as a slice
pub small_slice : (n k : ℕ) (name : List ℕ) → k ≡ length name - n → small (take (length name - k) (drop k name)) ≡ last_bytes n (small name)
small_slice n k name at = ap small (ap (λ (m : ℕ). take m (drop k name)) (sym (length-drop k name)) ∙ take-length (drop k name)) ∙ small_end n k name at
