-- Bytes begin with one cell, or are refused with one code.
use Rattle.std.specs.Prelude.{◌≡◌, ℕ, ◌⊎◌, List, ◌++◌}
use Rattle.vpf_base.specs.declared.orders.Order.{Order}
use Rattle.vpf_triplet.specs.declared.kinds.Kind.{Kind}
use Rattle.vpf_triplet.specs.declared.kinds.Count.{Count}
use Rattle.vpf_triplet.specs.declared.places.Code.{Code}
use Rattle.vpf_value.specs.Faults.{FirstCellFault}
use Rattle.vpf_value.specs.Values.{Value}
use Rattle.vpf_value.specs.Spelling.{IsCell}

-- the bytes begin with a spelling of the value, and `rest` follows it
pub record BeginsCell (o : Order) (kind : Kind) (count : Count) (bytes : List ℕ) (v : Value) (text rest : List ℕ) : Type 0 where
  pub parts : bytes ≡ text ++ rest
  pub spelled : IsCell o kind count v text

-- exactly one of the two, in one way
pub record DecidesCell (o : Order) (kind : Kind) (count : Count) (bytes : List ℕ) : Type 0 where
  pub either : ((v : Value) × (text : List ℕ) × (rest : List ℕ) × BeginsCell o kind count bytes v text rest) ⊎ ((code : Code) × FirstCellFault o kind count bytes code)
  pub never_both : (v : Value) (text rest : List ℕ) (code : Code) → BeginsCell o kind count bytes v text rest → FirstCellFault o kind count bytes code → ⊥
  pub one_code : (c d : Code) → FirstCellFault o kind count bytes c → FirstCellFault o kind count bytes d → c ≡ d
  pub one_value : (v u : Value) (text rest text2 rest2 : List ℕ) → BeginsCell o kind count bytes v text rest → BeginsCell o kind count bytes u text2 rest2 → (v ≡ u) × (text ≡ text2) × (rest ≡ rest2)
