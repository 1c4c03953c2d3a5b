-- Bytes begin with one triplet id, or are refused with one code.
use Rattle.std.specs.Prelude.{◌≡◌, ℕ, ◌⊎◌, List, ◌++◌}
use Rattle.vpf_base.specs.declared.orders.Order.{Order}
use Rattle.vpf_triplet.specs.declared.places.Code.{Code}
use Rattle.vpf_triplet.specs.declared.triplets.Triplet.{Triplet}
use Rattle.vpf_triplet.specs.Faults.{FirstTripletFault}
use Rattle.vpf_triplet.specs.Spelling.{IsTriplet}

-- the bytes begin with a spelling of the triplet id, and `rest` follows it
pub record BeginsTriplet (o : Order) (bytes : List ℕ) (t : Triplet) (text rest : List ℕ) : Type 0 where
  pub parts : bytes ≡ text ++ rest
  pub spelled : IsTriplet o t text

-- exactly one of the two, in one way
pub record DecidesTriplet (o : Order) (bytes : List ℕ) : Type 0 where
  pub either : ((t : Triplet) × (text : List ℕ) × (rest : List ℕ) × BeginsTriplet o bytes t text rest) ⊎ ((code : Code) × FirstTripletFault o bytes code)
  pub never_both : (t : Triplet) (text rest : List ℕ) (code : Code) → BeginsTriplet o bytes t text rest → FirstTripletFault o bytes code → ⊥
  pub one_code : (c d : Code) → FirstTripletFault o bytes c → FirstTripletFault o bytes d → c ≡ d
  pub one_value : (t u : Triplet) (text rest text2 rest2 : List ℕ) → BeginsTriplet o bytes t text rest → BeginsTriplet o bytes u text2 rest2 → (t ≡ u) × (text ≡ text2) × (rest ≡ rest2)
