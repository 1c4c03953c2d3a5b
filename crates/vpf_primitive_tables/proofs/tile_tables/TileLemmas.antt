-- Rows of the table of tiles, as many as are left.
use Rattle.std.proofs.Common.{◌≡◌, ℕ, suc, ◌+◌, List, [], ◌∷◌, ◌++◌, codes, sym, ◌∙◌, subst, append_assoc, arith}
use Rattle.std.proofs.lemmas.List.{append-nil}
use Rattle.vpf_head.specs.Head.{Col}
use Rattle.vpf_table.specs.Grid.{Row}
use Rattle.vpf_write.specs.Revise.Revising.{revised}
use Rattle.vpf_tiling.specs.Ranks.{numbered, numbered_from}
use Rattle.vpf_write.specs.Inner.Tallies.{Tally, Holds}
use Rattle.vpf_primitive_tables.specs.TableForms.Forms.{named_value, natural_value}

-- row k of the table of tiles
abbrev pub tile_row : List Col → ℕ → Row → Row
tile_row columns k row = revised (named_value columns (codes "id") (natural_value k)) row

-- the rows that are put, and those of the rows that are left, are all
pub record IsPutBefore (w : Tally) (f : ℕ → Row → Row) (k : ℕ) (left all : List Row) : Type 0 where
  pub put : List Row
  pub holds : Holds w put
  pub whole : put ++ numbered_from (suc k) f left ≡ numbered f all

-- one row more
pub put_next : (w v : Tally) (f : ℕ → Row → Row) (k : ℕ) (left rest all : List Row) (row : Row) → left ≡ row ∷ rest
    → ((rows : List Row) → Holds w rows → Holds v (rows ++ f (k + 1) row ∷ [])) → IsPutBefore w f k left all → IsPutBefore v f (k + 1) rest all
put_next w v f k left rest all row e put before =
    let s : suc k ≡ k + 1 = omega arith in
    let shown : before.put ++ (f (k + 1) row ∷ numbered_from (suc (k + 1)) f rest) ≡ numbered f all = rw (e, s) at before.whole in
    record {
      put = before.put ++ f (k + 1) row ∷ [];
      holds = put before.put before.holds;
      whole = append_assoc before.put (f (k + 1) row ∷ []) (numbered_from (suc (k + 1)) f rest) ∙ shown;
    }

-- all rows
pub put_last : (w : Tally) (f : ℕ → Row → Row) (k : ℕ) (left all : List Row) → left ≡ [] → IsPutBefore w f k left all → Holds w (numbered f all)
put_last w f k left all e before =
    let shown : before.put ++ [] ≡ numbered f all = rw e at before.whole in
    subst (Holds w) (sym (append-nil before.put) ∙ shown) before.holds
