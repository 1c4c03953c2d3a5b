-- Columns that are right, and then rows.
use Rattle.std.proofs.Common.{◌≡◌, ◌∙◌, ℕ, Option, Some, None, Result, Ok, Err, List, [], ◌∷◌, refl, sym, ap}
use Rattle.std.specs.Prelude.{codes}
use Rattle.vpf_findings.specs.declared.errors.FindError.{FindError}
use Rattle.vpf_findings.specs.declared.errors.FindError.TheVariants as errors
use Rattle.vpf_findings.specs.Findings.{Disagreement, disagreement_of}
use Rattle.vpf_findings.specs.Firsts.{◌or◌, Tells, first_of_rows}
use Rattle.vpf_findings.specs.Inner.FirstLaws.{or-none_both}
use Rattle.vpf_head.specs.Head.{Col}
use Rattle.vpf_table.specs.Grid.{Row}
use Rattle.vpf_prims.specs.declared.placing.RoleColumn.{RoleColumn}
use Rattle.vpf_prims.specs.declared.placing.TableAt.{TableAt}
use Rattle.vpf_prims.specs.Columns.{RoleAt, columns_finding, id_column, reference_column, role_at, role_column, role_line}
use Rattle.vpf_prims.specs.Inner.Placed.{IsColumnOf}
use Rattle.vpf_prims.specs.Roles.{Role, number_role, reference_role}
use Rattle.vpf_numbers.specs.ColumnLines.{like_line, role_lines, roles_finding}
use Rattle.vpf_numbers.specs.RowLines.{plain_rows_line, ring_row_lines, ring_rows_line}

-- a finding on columns is the first
pub both_stop : {F : Type 0} (a b d : Option F) (f : F) → (a or b) ≡ Some f → (a or (b or d)) ≡ Some f
both_stop None b d f h = rw h refl
both_stop (Some g) b d f h = h

-- where there is none, what is said of rows is first
pub both_later : {F : Type 0} (a b d x : Option F) → (a or b) ≡ None → d ≡ x → (a or (b or d)) ≡ x
both_later None b d x h e = rw h e
both_later (Some g) b d x h e = absurd cc

-- the same where there are three lines on columns
pub three_stop : {F : Type 0} (a b e d : Option F) (f : F) → (a or (b or e)) ≡ Some f → (a or (b or (e or d))) ≡ Some f
three_stop None b e d f h = both_stop b e d f h
three_stop (Some g) b e d f h = h

pub three_later : {F : Type 0} (a b e d x : Option F) → (a or (b or e)) ≡ None → d ≡ x → (a or (b or (e or d))) ≡ x
three_later None b e d x h is = both_later b e d x h is
three_later (Some g) b e d x h is = absurd cc

-- where roles have no finding, their columns have none
pub roles_placed : (at : TableAt) (columns : List Col) (model : Option (List Col)) (roles : List Role) → roles_finding at columns model roles ≡ None → columns_finding at columns roles ≡ None
roles_placed at columns model [] h = refl
roles_placed at columns model (role ∷ roles) h =
    let first = or-none_both (role_lines at columns model role) (roles_finding at columns model roles) h in
    let line = or-none_both (role_line at columns role) (like_line at columns model role.name) first.0 in
    let rest = roles_placed at columns model roles first.1 in
    rw (line.0, rest) refl

-- a call that can't find anything tells that nothing is found
pub tells_none : {V : Type 0} (r : Result V FindError) (a b : Option Disagreement) → a ≡ None → b ≡ None → Tells r a → Tells r b
tells_none (Ok v) a b silent none h = none
tells_none (Err (errors.Finding f)) a b silent none h = absurd cc
tells_none (Err errors.NoMemory) a b silent none h = tt

-- the rows of rings, by the columns that are placed
pub ring_rows_placed : (at : TableAt) (columns : List Col) (id face edge : RoleColumn) (faces edges : ℕ) (rows : List Row) → IsColumnOf columns (number_role (codes "id")) id
    → IsColumnOf columns (reference_role (codes "face_id")) face → IsColumnOf columns (reference_role (codes "start_edge")) edge
    → first_of_rows (ring_row_lines at columns faces edges) 1 rows ≡ first_of_rows (ring_rows_line at (role_at id) (role_at face) (role_at edge) faces edges) 1 rows
ring_rows_placed at columns id face edge faces edges rows i f e =
    let lines = λ (a b d : RoleAt). first_of_rows (ring_rows_line at a b d faces edges) 1 rows in
    sym (ap (λ (a : RoleAt). lines a (role_at face) (role_at edge)) i.is
    ∙ ap (λ (b : RoleAt). lines (id_column columns) b (role_at edge)) f.is
    ∙ ap (λ (d : RoleAt). lines (id_column columns) (reference_column columns (codes "face_id")) d) e.is)

-- the rows of a table of one reference
pub plain_rows_placed : (at : TableAt) (columns : List Col) (role : Role) (id column : RoleColumn) (last : ℕ) (rows : List Row) → IsColumnOf columns (number_role (codes "id")) id → IsColumnOf columns role column
    → first_of_rows (plain_rows_line at (id_column columns) (role_column columns role) last) 1 rows ≡ first_of_rows (plain_rows_line at (role_at id) (role_at column) last) 1 rows
plain_rows_placed at columns role id column last rows i f =
    let lines = λ (a b : RoleAt). first_of_rows (plain_rows_line at a b last) 1 rows in
    sym (ap (λ (a : RoleAt). lines a (role_at column)) i.is ∙ ap (λ (b : RoleAt). lines (id_column columns) b) f.is)

-- what stops a call at the columns stops it at the table
pub tells_both : (e : FindError) (a b d : Option Disagreement) → Tells {V = Unit {0}} (Err e) (a or b) → Tells {V = Unit {0}} (Err e) (a or (b or d))
tells_both (errors.Finding f) a b d some = both_stop a b d (disagreement_of f) some
tells_both errors.NoMemory a b d h = tt
