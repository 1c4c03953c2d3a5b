-- Entries of a view, by their places.
use Rattle.std.proofs.Common.{◌≡◌, ℕ, ◌<◌, List, length, None, refl, subst, arith}
use Rattle.std.proofs.lemmas.List.FromFn.{get_or-map-range_with_len, length-map-range_with_len}
use Rattle.vpf_theme.proofs.SpellingLemmas.{value-entry}
use Rattle.vpf_theme.specs.declared.layout.Layout.{Layout}
use Rattle.vpf_theme.specs.Layouts.{HasValues}
use Rattle.vpf_theme.specs.Entries.{Theme, entry_of, theme_in, value_of}
use Rattle.vpf_theme.specs.Findings.{entry_at, no_entry}
use Rattle.vpf_theme.specs.Reading.{entries_line}
use Rattle.vpf_theme.specs.Agreeing.{HaveRows}
use Rattle.vpf_theme.specs.Inner.Repeating.{HaveOneField}
use Rattle.vpf_theme.proofs.ValueLemmas.{FixedCells}
use Rattle.vpf_theme.proofs.OrderLemmas.{cmp_equal, sort_of}
use Rattle.vpf_theme.proofs.SearchLemmas.{value_is_of}
use Rattle.vpf_theme.proofs.DataLemmas.{entry_are_rows}

pub view_entry : (l : Layout) (bytes : List ℕ) (t : Theme) (i : ℕ) → theme_in l bytes ≡ t → i < l.entries → entry_at t.entries i ≡ entry_of l bytes i
view_entry l bytes t i e h = rw (← e) (get_or-map-range_with_len (entry_of l bytes) 0 l.entries i i no_entry h (omega arith))

pub view_value : (l : Layout) (bytes : List ℕ) (t : Theme) (i : ℕ) → theme_in l bytes ≡ t → i < l.entries → (entry_at t.entries i).value ≡ value_of l bytes i
view_value l bytes t i e h = rw (view_entry l bytes t i e h) (value-entry l bytes i)

pub view_length : (l : Layout) (bytes : List ℕ) (t : Theme) (i : ℕ) → theme_in l bytes ≡ t → i < length t.entries → i < l.entries
view_length l bytes t i e h = let k = rw (← e) at h in omega (arith, k, length-map-range_with_len (entry_of l bytes) 0 l.entries)

pub view_have_rows : (l : Layout) (bytes : List ℕ) (t : Theme) → theme_in l bytes ≡ t → entries_line l bytes ≡ None → HaveRows t
view_have_rows l bytes t e h = subst HaveRows e (λ i m. let k = view_length l bytes (theme_in l bytes) i refl m in rw (view_entry l bytes (theme_in l bytes) i refl k) (entry_are_rows l bytes i h k))

pub view_one_field : (l : Layout) (bytes : List ℕ) (t : Theme) → FixedCells → HasValues l → theme_in l bytes ≡ t → entries_line l bytes ≡ None
    → HaveOneField t.entries
view_one_field l bytes t laws values e h i j m n x =
    let a = view_length l bytes t i e m in
    let b = view_length l bytes t j e n in
    let v = view_value l bytes t i e a in
    let u = view_value l bytes t j e b in
    let y = rw (v, u) at x in
    let p = value_is_of l bytes i laws values h a in
    let q = value_is_of l bytes j laws values h b in
    rw (v, u) (cmp_equal (sort_of l.kind) (value_of l bytes i) (value_of l bytes j) p q y)
