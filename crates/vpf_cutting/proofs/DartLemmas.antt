-- The darts of a cut coverage: in which tiles their edges are, and what is next.
use Rattle.std.proofs.Common.{◌≡◌, ◌≢◌, ℕ, zero, suc, ◌^◌, ◌<◌, ◌≤◌, Bool, true, false, not, cond, refl, sym, ap, ◌∙◌, subst, arith, length}
use Rattle.std.proofs.lemmas.Bool.{eq-eqb, ne_eqb}
use Rattle.vpf_darts.specs.declared.darts.Dart.{Dart}
use Rattle.vpf_darts.specs.declared.darts.TileDart.{TileDart}
use Rattle.vpf_darts.specs.Darts.{code, dart_code, edge_in, flip, sign_of, tile_dart_code}
use Rattle.vpf_darts.specs.Inner.Laws.{ComesRoundTo, FirstKeptDart}
use Rattle.vpf_darts.specs.Maps.{DartMap, IsMap, is_of_any}
use Rattle.vpf_prims.specs.Numbering.{IsRowOf}
use Rattle.vpf_prims.specs.Primitives.{Primitives, cross}
use Rattle.vpf_prims.specs.References.{plain}
use Rattle.vpf_wing.specs.Inner.DartLaws.{code-edge, code-tile, sign-small}
use Rattle.vpf_tiling.specs.Presence.{absent_darts, coverage_map, face_of, has_edge, has_node, head_of, home, is_present, local_edge, local_node, next_of, tail_of, tile_map, untiled_links}
use Rattle.vpf_tiling.specs.Inner.PresenceLaws.{Held, InFaces, edge_present, held, in_faces, in_zero, present_has, source_next, tail_next}
use Rattle.vpf_tiling.specs.Tiles.{reference_to, tiled_edge, tiled_face, tiled_node, tiled_wing}
use Rattle.vpf_triplet.specs.declared.triplets.Triplet.{Triplet}
use Rattle.vpf_cutting.specs.declared.rows.CutEdge.{CutEdge}
use Rattle.vpf_cutting.specs.declared.rows.Onward.{Onward}
use Rattle.vpf_cutting.specs.Inner.Onward.{IsOnward}
use Rattle.vpf_cutting.specs.Inner.Rows.{references_of}
use Rattle.vpf_cutting.specs.Inner.Cuts.{Cutting, IsPlanned, plan_by}
use Rattle.vpf_cutting.specs.Inner.WalkLaws.{absent_edges, has_row, home_here, home_past, home_there, kept_present, passed_is, present_kept, present_other, row_has, tail_there}
use Rattle.vpf_cutting.proofs.RowLemmas.{flip_is}

abbrev cut_edge : Triplet → Triplet → Triplet → Triplet → Triplet → Triplet → CutEdge
cut_edge a b f g u v = record { start_node = a; end_node = b; right_face = f; left_face = g; right_edge = u; left_edge = v }

-- a dart of a row of edges is one of the coverage
pub dart_has : (k : Cutting) → IsPlanned k → (d : Dart) → IsRowOf (length k.source.edges) d.edge → (untiled_links k.source).has (dart_code d) ≡ true
dart_has k p d row = row_has k.source d.edge (sign_of d.minus) p.tileable.few (sign-small d.minus) row

-- and the other way round
pub present_row : (c : Primitives) (plan : ℕ → ℕ) (t : ℕ) (d : Dart) → is_present c plan t (dart_code d) ≡ true → IsRowOf (length c.edges) d.edge
present_row c plan t d h = has_row c d.edge (sign_of d.minus) (sign-small d.minus) (present_has c plan t (dart_code d) h)

-- the face of a dart is one of the coverage
pub face_row : (k : Cutting) → IsPlanned k → (d : Dart) (f : ℕ) → IsRowOf (length k.source.edges) d.edge → f ≡ face_of k.source (dart_code d) → IsRowOf (length k.source.faces) f
face_row k p d f row is =
    let i : InFaces k.source (face_of k.source (dart_code d)) = in_faces k.source p.tileable.well_formed (dart_code d) (dart_has k p d row) in
    subst (λ x. IsRowOf (length k.source.faces) x) (sym is) (i.from_one, i.to_last)

-- the next of a dart is one of the coverage
pub next_row : (k : Cutting) → IsPlanned k → (d next : Dart) → IsRowOf (length k.source.edges) d.edge → dart_code next ≡ next_of k.source (dart_code d)
    → IsRowOf (length k.source.edges) next.edge
next_row k p d next row is =
    has_row k.source next.edge (sign_of next.minus) (sign-small next.minus)
    (subst (λ x. (untiled_links k.source).has x ≡ true) (sym is) (source_next k.source p.tileable.well_formed (dart_code d) (dart_has k p d row)).has)

pub flip_code : (d other : Dart) → other ≡ record { edge = d.edge; minus = not d.minus } → dart_code other ≡ flip (dart_code d)
flip_code d other is = ap dart_code is ∙ sym (flip_is 0 d.edge d.minus)

-- a tile where an edge is, is one of the plan
pub tile_few : (k : Cutting) → IsPlanned k → (t d : ℕ) → is_present k.source (plan_by k.plan) t d ≡ true → t < 2 ^ 31
tile_few k p t d h =
    let of : Held k.source (plan_by k.plan) t = held k.source (plan_by k.plan) t d h in
    let to : plan_by k.plan of.face ≤ k.tiles = p.tileable.plans.to_last of.face of.from_two of.to_last in
    let few : k.tiles < 2 ^ 31 = p.few in
    let is : plan_by k.plan of.face ≡ t = of.planned in
    omega arith

-- what is so of a home
pub record IsHome (k : Cutting) (d : Dart) (t : ℕ) : Type 0 where
  pub value : t ≡ home k.source (plan_by k.plan) (dart_code d)
  pub there : is_present k.source (plan_by k.plan) t (dart_code d) ≡ true
  pub few : t < 2 ^ 31

is_home : (k : Cutting) → IsPlanned k → (d : Dart) (t : ℕ) → IsRowOf (length k.source.edges) d.edge → t ≡ home k.source (plan_by k.plan) (dart_code d) → IsHome k d t
is_home k p d t row is =
    let at : is_present k.source (plan_by k.plan) t (dart_code d) ≡ true =
    subst (λ s. is_present k.source (plan_by k.plan) s (dart_code d) ≡ true) (sym is)
    (home_there k.source (plan_by k.plan) k.tiles p.tileable (dart_code d) (dart_has k p d row)) in
    record { value = is; there = at; few = tile_few k p t (dart_code d) at }

-- by the face on the other side
pub home_by_other : (k : Cutting) → IsPlanned k → (d other : Dart) (f g t : ℕ) → IsRowOf (length k.source.edges) d.edge → other ≡ record { edge = d.edge; minus = not d.minus }
    → f ≡ face_of k.source (dart_code d) → f ≡ 1 → g ≡ face_of k.source (dart_code other) → t ≡ plan_by k.plan g → IsHome k d t
home_by_other k p d other f g t row turned own one side is =
    is_home k p d t row
    (is ∙ ap (plan_by k.plan) (side ∙ ap (face_of k.source) (flip_code d other turned)) ∙ sym (home_past k.source (plan_by k.plan) (dart_code d) (sym own ∙ one)))

-- by its own face
pub home_by_own : (k : Cutting) → IsPlanned k → (d : Dart) (f t : ℕ) → IsRowOf (length k.source.edges) d.edge
    → f ≡ face_of k.source (dart_code d) → (f ≡ 1 → ⊥) → t ≡ plan_by k.plan f → IsHome k d t
home_by_own k p d f t row own other is =
    is_home k p d t row (is ∙ ap (plan_by k.plan) own ∙ sym (home_here k.source (plan_by k.plan) (dart_code d) (λ one. other (own ∙ one))))

-- a dart of a tile is of one of its edges
pub edge_there : (k : Cutting) → IsPlanned k → (t : ℕ) (d : Dart) → is_present k.source (plan_by k.plan) t (dart_code d) ≡ true
    → has_edge k.source (plan_by k.plan) t d.edge ≡ true
edge_there k p t d h =
    let row : IsRowOf (length k.source.edges) d.edge = present_row k.source (plan_by k.plan) t d h in
    let few = p.tileable.few in
    let top : d.edge ≤ length k.source.edges = row.1 in
    let is : edge_in (dart_code d) ≡ d.edge = code-edge 0 d.edge (sign_of d.minus) (omega arith) (sign-small d.minus) in
    subst (λ e. has_edge k.source (plan_by k.plan) t e ≡ true) is (edge_present k.source (plan_by k.plan) t (dart_code d) h)

pub edge_is : (k : Cutting) → IsPlanned k → (d : Dart) → IsRowOf (length k.source.edges) d.edge → edge_in (dart_code d) ≡ d.edge
edge_is k p d row =
    let few = p.tileable.few in
    let top : d.edge ≤ length k.source.edges = row.1 in
    code-edge 0 d.edge (sign_of d.minus) (omega arith) (sign-small d.minus)

-- the node where a dart of a tile ends is in the tile
pub head_there : (c : Primitives) (plan : ℕ → ℕ) (t d n : ℕ) → is_present c plan t d ≡ true → n ≡ head_of c d → has_node c plan t n ≡ true
head_there c plan t d n h is =
    subst (λ x. has_node c plan t x ≡ true) (sym is) (tail_there c plan t (flip d) (present_other c plan t d ∙ h))

-- and in the home of the next dart
pub head_home : (k : Cutting) → IsPlanned k → (d next : Dart) (t n : ℕ) → IsRowOf (length k.source.edges) d.edge → dart_code next ≡ next_of k.source (dart_code d)
    → is_present k.source (plan_by k.plan) t (dart_code next) ≡ true → n ≡ head_of k.source (dart_code d) → has_node k.source (plan_by k.plan) t n ≡ true
head_home k p d next t n row is h node =
    subst (λ x. has_node k.source (plan_by k.plan) t x ≡ true)
    (ap (tail_of k.source) is ∙ tail_next k.source p.tileable.well_formed (dart_code d) (dart_has k p d row) ∙ sym node)
    (tail_there k.source (plan_by k.plan) t (dart_code next) h)

-- either dart of an edge is where the edge is
pub side_is : (c : Primitives) (plan : ℕ → ℕ) (t e : ℕ) (m : Bool) → is_present c plan t (code 0 e (sign_of m)) ≡ has_edge c plan t e
side_is c plan t e false = refl
side_is c plan t e true = ap (is_present c plan t) (sym (flip_is 0 e false)) ∙ present_other c plan t (code 0 e 0)

-- a dart of the coverage is in tile 0
pub tile_zero : (c : Primitives) (d : TileDart) → d.edge < 2 ^ 32 → (untiled_links c).has (tile_dart_code d) ≡ true → d.tile ≡ 0
tile_zero c d small h = sym (code-tile d.tile d.edge (sign_of d.minus) small (sign-small d.minus)) ∙ (in_zero c (tile_dart_code d) h).tile

pub same_code : (c : Primitives) (d : TileDart) → d.edge < 2 ^ 32 → (untiled_links c).has (tile_dart_code d) ≡ true → tile_dart_code d ≡ code 0 d.edge (sign_of d.minus)
same_code c d small h = ap (λ t. code t d.edge (sign_of d.minus)) (tile_zero c d small h)

pub tile_dart_row : (c : Primitives) (d : TileDart) → d.edge < 2 ^ 32 → (untiled_links c).has (tile_dart_code d) ≡ true → IsRowOf (length c.edges) d.edge
tile_dart_row c d small h =
    has_row c d.edge (sign_of d.minus) (sign-small d.minus) (subst (λ x. (untiled_links c).has x ≡ true) (same_code c d small h) h)

-- whether a dart is passed over
pub is_passed_over : (c : Primitives) (plan : ℕ → ℕ) (t : ℕ) (d : TileDart) (answer : Bool) → d.edge < 2 ^ 32 → (untiled_links c).has (tile_dart_code d) ≡ true
    → answer ≡ has_edge c plan t d.edge → not answer ≡ is_of_any flip (absent_darts c plan t) (tile_dart_code d)
is_passed_over c plan t d answer small h is =
    ap not (is ∙ sym (side_is c plan t d.edge d.minus) ∙ ap (is_present c plan t) (sym (same_code c d small h))) ∙ sym (passed_is c plan t (tile_dart_code d) h)

kept_at_last : (m : DartMap) (passed : ℕ → Bool) (n x y : ℕ) → ComesRoundTo m passed n x y → passed y ≡ false
kept_at_last m passed zero x y h = subst (λ z. passed z ≡ false) h.1 h.0
kept_at_last m passed (suc n) x y h = kept_at_last m passed n _ y h.1

-- the next of a dart in a tile is there
pub next_there : FirstKeptDart → (k : Cutting) → IsPlanned k → IsMap (coverage_map k.source) → (t d y : ℕ) → is_present k.source (plan_by k.plan) t d ≡ true
    → (untiled_links k.source).has y ≡ true → y ≡ (tile_map k.source (plan_by k.plan) t).next d → is_present k.source (plan_by k.plan) t y ≡ true
next_there law k p m t d y h there is =
    let plan : ℕ → ℕ = plan_by k.plan in
    let r = law (coverage_map k.source) (absent_darts k.source plan t) d m (absent_edges k.source plan t p.tileable.few) (present_kept k.source plan t d h) in
    kept_present k.source plan t y there
    (ap (is_of_any flip (absent_darts k.source plan t)) is
    ∙ kept_at_last (coverage_map k.source) (is_of_any flip (absent_darts k.source plan t)) r.0 (next_of k.source d) ((tile_map k.source plan t).next d) r.2)

-- the cell of a node
pub node_reference : (c : Primitives) (plan : ℕ → ℕ) (t d next s node here there : ℕ) → next ≡ next_of c d → s ≡ home c plan next → node ≡ head_of c d
    → here ≡ local_node c plan t node → there ≡ local_node c plan s node → reference_to t s here there ≡ tiled_node c plan t d
node_reference c plan t d next s node here there p q r u v =
    let same : s ≡ home c plan (next_of c d) = q ∙ ap (home c plan) p in
    ap (λ z. reference_to t z here there) same
    ∙ ap (λ z. reference_to t (home c plan (next_of c d)) z there) (u ∙ ap (local_node c plan t) r)
    ∙ ap (λ z. reference_to t (home c plan (next_of c d)) (local_node c plan t (head_of c d)) z)
    (v ∙ ap (λ z. local_node c plan z node) same ∙ ap (local_node c plan (home c plan (next_of c d))) r)

-- the cell of a wing
pub wing_reference : (c : Primitives) (plan : ℕ → ℕ) (t d next s first edge far here there : ℕ) → next ≡ next_of c d → s ≡ home c plan next
    → first ≡ (tile_map c plan t).next d → edge_in first ≡ edge → edge_in next ≡ far
    → here ≡ local_edge c plan t edge → there ≡ local_edge c plan s far → reference_to t s here there ≡ tiled_wing c plan t d
wing_reference c plan t d next s first edge far here there p q r x y u v =
    let same : s ≡ home c plan (next_of c d) = q ∙ ap (home c plan) p in
    ap (λ z. reference_to t z here there) same
    ∙ ap (λ z. reference_to t (home c plan (next_of c d)) z there) (u ∙ ap (local_edge c plan t) (sym x ∙ ap edge_in r))
    ∙ ap (λ z. reference_to t (home c plan (next_of c d)) (local_edge c plan t (edge_in ((tile_map c plan t).next d))) z)
    (v ∙ ap (λ z. local_edge c plan z far) same ∙ ap (local_edge c plan (home c plan (next_of c d))) (sym y ∙ ap edge_in p))

-- all cells of an edge
pub edge_references : (c : Primitives) (plan : ℕ → ℕ) (t k e : ℕ) (minus : Dart) (right left : ℕ) (a b f g u v : Triplet)
    → dart_code minus ≡ code 0 e 1 → right ≡ face_of c (code 0 e 0) → left ≡ face_of c (dart_code minus)
    → a ≡ tiled_node c plan t (dart_code minus) → b ≡ tiled_node c plan t (code 0 e 0) → f ≡ tiled_face c plan t right → g ≡ tiled_face c plan t left
    → u ≡ tiled_wing c plan t (code 0 e 0) → v ≡ tiled_wing c plan t (dart_code minus)
    → cut_edge a b f g u v ≡ references_of (tiled_edge c plan t k e)
edge_references c plan t k e minus right left a b f g u v is r l p q x y z w =
    ap (λ m. cut_edge m b f g u v) (p ∙ ap (tiled_node c plan t) is)
    ∙ ap (λ m. cut_edge (tiled_node c plan t (code 0 e 1)) m f g u v) q
    ∙ ap (λ m. cut_edge (tiled_node c plan t (code 0 e 1)) (tiled_node c plan t (code 0 e 0)) m g u v) (x ∙ ap (tiled_face c plan t) r)
    ∙ ap (λ m. cut_edge (tiled_node c plan t (code 0 e 1)) (tiled_node c plan t (code 0 e 0)) (tiled_face c plan t (face_of c (code 0 e 0))) m u v)
    (y ∙ ap (tiled_face c plan t) (l ∙ ap (face_of c) is))
    ∙ ap (λ m. cut_edge (tiled_node c plan t (code 0 e 1)) (tiled_node c plan t (code 0 e 0)) (tiled_face c plan t (face_of c (code 0 e 0)))
    (tiled_face c plan t (face_of c (code 0 e 1))) m v) z
    ∙ ap (λ m. cut_edge (tiled_node c plan t (code 0 e 1)) (tiled_node c plan t (code 0 e 0)) (tiled_face c plan t (face_of c (code 0 e 0)))
    (tiled_face c plan t (face_of c (code 0 e 1))) (tiled_wing c plan t (code 0 e 0)) m) (w ∙ ap (tiled_wing c plan t) is)

-- ---- how the boundary goes on

-- a thing that has its home here is named by its number, and any other with its home and its number there
here_alone : (t s here there : ℕ) → s ≡ t → reference_to t s here there ≡ plain here
here_alone t s here there e = ap (λ b. cond b (plain here) (cross here s there)) (eq-eqb s t e)

with_home : (t s here there : ℕ) → s ≢ t → reference_to t s here there ≡ cross here s there
with_home t s here there ne = ap (λ b. cond b (plain here) (cross here s there)) (ne_eqb s t ne)

-- the cell of a node whose next dart has its home here
pub node_here : (c : Primitives) (plan : ℕ → ℕ) (t d node here : ℕ) (o : Onward) → IsOnward c plan d o → o.home ≡ t → node ≡ head_of c d
    → here ≡ local_node c plan t node → plain here ≡ tiled_node c plan t d
node_here c plan t d node here o on at is number =
    sym (here_alone t o.home here here at)
    ∙ node_reference c plan t d (dart_code o.next) o.home node here here on.next on.home is number (number ∙ ap (λ z. local_node c plan z node) (sym at))

-- and of one whose next dart has it elsewhere
pub node_there : (c : Primitives) (plan : ℕ → ℕ) (t d node here there : ℕ) (o : Onward) → IsOnward c plan d o → o.home ≢ t → node ≡ head_of c d
    → here ≡ local_node c plan t node → there ≡ local_node c plan o.home node → cross here o.home there ≡ tiled_node c plan t d
node_there c plan t d node here there o on apart is number far =
    sym (with_home t o.home here there apart) ∙ node_reference c plan t d (dart_code o.next) o.home node here there on.next on.home is number far

-- where the next of a dart is present in a tile, it is its next there
comes_at_once : (m : DartMap) (passed : ℕ → Bool) (n x y : ℕ) → passed x ≡ false → ComesRoundTo m passed n x y → x ≡ y
comes_at_once m passed zero x y kept h = h.1
comes_at_once m passed (suc n) x y kept h = absurd (cc (sym h.0 ∙ kept))

next_here : FirstKeptDart → (k : Cutting) → IsPlanned k → IsMap (coverage_map k.source) → (t d : ℕ) → is_present k.source (plan_by k.plan) t d ≡ true
    → is_present k.source (plan_by k.plan) t (next_of k.source d) ≡ true → next_of k.source d ≡ (tile_map k.source (plan_by k.plan) t).next d
next_here law k p m t d h there =
    let plan : ℕ → ℕ = plan_by k.plan in
    let r = law (coverage_map k.source) (absent_darts k.source plan t) d m (absent_edges k.source plan t p.tileable.few) (present_kept k.source plan t d h) in
    comes_at_once (coverage_map k.source) (is_of_any flip (absent_darts k.source plan t)) r.0 (next_of k.source d) ((tile_map k.source plan t).next d)
    (present_kept k.source plan t (next_of k.source d) there) r.2

-- the cell of a wing whose next dart has its home here
pub wing_here : FirstKeptDart → (k : Cutting) → IsPlanned k → IsMap (coverage_map k.source) → (t d here : ℕ) (o : Onward) → is_present k.source (plan_by k.plan) t d ≡ true
    → IsOnward k.source (plan_by k.plan) d o → o.home ≡ t → here ≡ local_edge k.source (plan_by k.plan) t o.next.edge → plain here ≡ tiled_wing k.source (plan_by k.plan) t d
wing_here law k p m t d here o h on at number =
    let plan : ℕ → ℕ = plan_by k.plan in
    let there : is_present k.source plan t (next_of k.source d) ≡ true = subst (λ z. is_present k.source plan t z ≡ true) on.next (subst (λ z. is_present k.source plan z (dart_code o.next) ≡ true) at on.there) in
    let first : dart_code o.next ≡ (tile_map k.source plan t).next d = on.next ∙ next_here law k p m t d h there in
    let edge : edge_in (dart_code o.next) ≡ o.next.edge = edge_is k p o.next on.row in
    sym (here_alone t o.home here here at)
    ∙ wing_reference k.source plan t d (dart_code o.next) o.home (dart_code o.next) o.next.edge o.next.edge here here on.next on.home first edge edge number
    (number ∙ ap (λ z. local_edge k.source plan z o.next.edge) (sym at))

-- and of one whose next dart has it elsewhere
pub wing_there : (k : Cutting) → IsPlanned k → (t d here there : ℕ) (first : Dart) (o : Onward) → IsOnward k.source (plan_by k.plan) d o → o.home ≢ t
    → dart_code first ≡ (tile_map k.source (plan_by k.plan) t).next d → IsRowOf (length k.source.edges) first.edge
    → here ≡ local_edge k.source (plan_by k.plan) t first.edge → there ≡ local_edge k.source (plan_by k.plan) o.home o.next.edge
    → cross here o.home there ≡ tiled_wing k.source (plan_by k.plan) t d
wing_there k p t d here there first o on apart is row number far =
    let plan : ℕ → ℕ = plan_by k.plan in
    sym (with_home t o.home here there apart)
    ∙ wing_reference k.source plan t d (dart_code o.next) o.home (dart_code first) first.edge o.next.edge here there on.next on.home is
    (edge_is k p first row) (edge_is k p o.next on.row) number far

-- the node at a dart's head is in the home of its next dart
pub head_onward : (k : Cutting) → IsPlanned k → (d : Dart) (n : ℕ) (o : Onward) → IsRowOf (length k.source.edges) d.edge → IsOnward k.source (plan_by k.plan) (dart_code d) o
    → n ≡ head_of k.source (dart_code d) → has_node k.source (plan_by k.plan) o.home n ≡ true
head_onward k p d n o row on is = head_home k p d o.next o.home n row on.next on.there is
