-- What a row carries is the same by the columns of two tables that are alike.
use Rattle.std.proofs.Common.{◌≡◌, ℕ, suc, cond, List, [], ◌∷◌, length, Some, slice_get, refl, sym, ap, ◌∙◌, arith}
use Rattle.vpf_head.specs.Head.{Col}
use Rattle.vpf_table.specs.Grid.{Row}
use Rattle.vpf_prims.specs.Reading.{carried_in, has_role}
use Rattle.vpf_prims.specs.Roles.{Role}
use Rattle.vpf_glue.proofs.glued_tables.LikeRows.{AreAlike, stand_alike}
use Rattle.vpf_glue.proofs.glued_tables.PlaceLemmas.{as_many, beside, role_alike}

-- columns at the same place have the same roles
abbrev SameRoles : List Role → (a b : List Col) → Type 0
SameRoles roles a b = (i : ℕ) (x y : Col) → slice_get a i ≡ Some x → slice_get b i ≡ Some y → has_role roles x ≡ has_role roles y

carried_by : (roles : List Role) (a b : List Col) (row : Row) → length a ≡ length b → SameRoles roles a b → carried_in roles a row ≡ carried_in roles b row
carried_by roles [] [] row e same = refl
carried_by roles [] (y ∷ b) row e same = absurd (omega arith)
carried_by roles (x ∷ a) [] row e same = absurd (omega arith)
carried_by roles (x ∷ a) (y ∷ b) [] e same = refl
carried_by roles (x ∷ a) (y ∷ b) (cell ∷ row) e same =
    let rest : carried_in roles a row ≡ carried_in roles b row = carried_by roles a b row (omega arith) (λ i x y h g. same (suc i) x y h g) in
    let first : has_role roles x ≡ has_role roles y = same 0 x y refl refl in
    λ i. cond (first i) (rest i) (cell ∷ rest i)

one_column : (x y : Col) → Some x ≡ Some y → x ≡ y
one_column x y e = cc

-- in two tables that are alike
pub carried_alike : (roles : List Role) (like there : List Col) (row : Row) → AreAlike roles like there → carried_in roles like row ≡ carried_in roles there row
carried_alike roles like there row a =
    let alike = stand_alike roles like there a in
    carried_by roles like there row (as_many like there a.apart a.apart_there alike) (λ i x y e f.
    let z = beside like there i x a.apart alike e in
    let same : z.column ≡ y = one_column z.column y (sym z.at ∙ f) in
    role_alike roles x z.column z.named ∙ ap (has_role roles) same)
