-- Darts by the rows of their edges.
use Rattle.std.proofs.Common.{◌≡◌, ℕ, ◌^◌, ◌<◌, ◌≤◌, Bool, true, false, not, ◌&&◌, ◌==◌, Option, Some, None, refl, ap, sym, ◌∙◌, arith}
use mathlib.Core.Bool.{beq}
use Rattle.std.proofs.lemmas.Bool.{leb-true, le-leb}
use Rattle.std.specs.Prelude.{nat_le, if◌then◌else◌}
use Rattle.std.specs.Option.{option_eq}
use Rattle.vpf_darts.specs.Darts.{code, sign_of}
use Rattle.vpf_prims.specs.declared.rows.EdgeRow.{EdgeRow}
use Rattle.vpf_prims.specs.Lists.{kth}
use Rattle.vpf_prims.specs.Primitives.{EdgePrimitive, Library, absent_edge, tile_edges, edge_count, edge_row_of}
use Rattle.vpf_prims.specs.References.{id_of}
use Rattle.vpf_wing.specs.Links.{Beyond, Link, DartLinks, links_of, link_of, edge_of_dart, only, wing_by, node_by, face_by, tail_node}
use Rattle.vpf_follow.specs.Following.{face_beyond, face_name, follow, follow_links, is_far_face, is_home, is_named, is_outside, same_beyond}
use Rattle.vpf_follow.specs.Inner.Rows.{edge_row_in, row_wing, row_node, row_face, row_is_named}
use Rattle.vpf_follow.proofs.DartLemmas.{code-tile, code-edge, code-minus, code-flip}

-- booleans that are compared
pub beq_same : (x y : Bool) → beq x y ≡ true → x ≡ y
beq_same true true e = refl
beq_same true false e = absurd cc
beq_same false true e = absurd cc
beq_same false false e = refl

pub beq_differ : (x y : Bool) → beq x y ≡ false → x ≡ y → ⊥
beq_differ true true e = absurd cc
beq_differ true false e = λ same. absurd cc
beq_differ false true e = λ same. absurd cc
beq_differ false false e = absurd cc

-- tiles that have edges are among those of the library
abbrev pub EndsAtLast : Library → Type 0
EndsAtLast L = (t : ℕ) → 1 ≤ edge_count L t → t ≤ L.last

-- a dart is there where its edge is, in a tile of the library
pub has_is : (L : Library) (t k : ℕ) (m : Bool) → k < 2 ^ 32
    → (links_of L).has (code t k (sign_of m)) ≡ (nat_le 1 k && nat_le k (edge_count L t) && nat_le t L.last)
has_is L t k m few = rw (code-tile t k m few, code-edge t k m few) refl

none_by : {A : Type 0} (a b c : Bool) (x : A) → (if a && b then Some x else None) ≡ None → (a && b && c) ≡ false
none_by false b c x e = refl
none_by true false c x e = refl
none_by true true c x e = absurd cc

some_by : {A : Type 0} (a b : Bool) (x y : A) → (if a && b then Some x else None) ≡ Some y → (a ≡ true) × (b ≡ true) × (x ≡ y)
some_by false b x y e = absurd cc
some_by true false x y e = absurd cc
some_by true true x y e = (refl, refl, cc)

there_by : {A : Type 0} (a b c : Bool) (x : A) → (a && b && c) ≡ true → (if a && b then Some x else None) ≡ Some x
there_by false b c x e = absurd cc
there_by true false c x e = absurd cc
there_by true true c x e = refl

-- where an edge isn't there, its darts aren't
pub has_none : (L : Library) (t k : ℕ) (m : Bool) → k < 2 ^ 32 → edge_row_in L t k ≡ None → (links_of L).has (code t k (sign_of m)) ≡ false
has_none L t k m few none =
    has_is L t k m few ∙ none_by (nat_le 1 k) (nat_le k (edge_count L t)) (nat_le t L.last) (edge_row_of (kth (tile_edges L t) k absent_edge)) none

-- where it is there, they are
pub has_some : (L : Library) (t k : ℕ) (m : Bool) (row : EdgeRow) → EndsAtLast L → k < 2 ^ 32 → edge_row_in L t k ≡ Some row
    → (links_of L).has (code t k (sign_of m)) ≡ true
has_some L t k m row ends few some =
    let is = some_by (nat_le 1 k) (nat_le k (edge_count L t)) (edge_row_of (kth (tile_edges L t) k absent_edge)) row some in
    let low : 1 ≤ k = leb-true 1 k is.0 in
    let high : k ≤ edge_count L t = leb-true k (edge_count L t) is.1 in
    let last : nat_le t L.last ≡ true = le-leb t L.last (ends t (omega arith)) in
    has_is L t k m few ∙ rw (is.0, is.1, last) refl

-- and the row is that of the edge
pub row_is : (L : Library) (t k : ℕ) (row : EdgeRow) → edge_row_in L t k ≡ Some row → edge_row_of (kth (tile_edges L t) k absent_edge) ≡ row
row_is L t k row some = (some_by (nat_le 1 k) (nat_le k (edge_count L t)) (edge_row_of (kth (tile_edges L t) k absent_edge)) row some).2

-- where a dart is there, so is the row of its edge
pub row_there : (L : Library) (t k : ℕ) (m : Bool) → k < 2 ^ 32 → (links_of L).has (code t k (sign_of m)) ≡ true
    → edge_row_in L t k ≡ Some (edge_row_of (kth (tile_edges L t) k absent_edge))
row_there L t k m few has =
    there_by (nat_le 1 k) (nat_le k (edge_count L t)) (nat_le t L.last) (edge_row_of (kth (tile_edges L t) k absent_edge)) (sym (has_is L t k m few) ∙ has)

-- the wing, the head node and the face of a dart
edge_is : (L : Library) (t k : ℕ) (m : Bool) → k < 2 ^ 32 → edge_of_dart L (code t k (sign_of m)) ≡ kth (tile_edges L t) k absent_edge
edge_is L t k m few = rw (code-tile t k m few, code-edge t k m few) refl

face_by_row : (m : Bool) (e : EdgePrimitive) → face_by m e ≡ row_face m (edge_row_of e)
face_by_row true e = refl
face_by_row false e = refl

wing_by_row : (m : Bool) (e : EdgePrimitive) → wing_by m e ≡ row_wing m (edge_row_of e)
wing_by_row true e = refl
wing_by_row false e = refl

node_by_row : (m : Bool) (e : EdgePrimitive) → node_by m e ≡ row_node m (edge_row_of e)
node_by_row true e = refl
node_by_row false e = refl

pub face_is : (L : Library) (t k : ℕ) (m : Bool) (row : EdgeRow) → k < 2 ^ 32 → edge_row_in L t k ≡ Some row
    → (links_of L).face (code t k (sign_of m)) ≡ link_of (row_face m row)
face_is L t k m row few some =
    ap (λ s. link_of (face_by s (edge_of_dart L (code t k (sign_of m))))) (code-minus t k m) ∙ ap (λ e. link_of (face_by m e)) (edge_is L t k m few)
    ∙ ap link_of (face_by_row m (kth (tile_edges L t) k absent_edge)) ∙ ap (λ r. link_of (row_face m r)) (row_is L t k row some)

pub wing_is : (L : Library) (t k : ℕ) (m : Bool) (row : EdgeRow) → k < 2 ^ 32 → edge_row_in L t k ≡ Some row
    → (links_of L).wing (code t k (sign_of m)) ≡ link_of (row_wing m row)
wing_is L t k m row few some =
    ap (λ s. link_of (wing_by s (edge_of_dart L (code t k (sign_of m))))) (code-minus t k m) ∙ ap (λ e. link_of (wing_by m e)) (edge_is L t k m few)
    ∙ ap link_of (wing_by_row m (kth (tile_edges L t) k absent_edge)) ∙ ap (λ r. link_of (row_wing m r)) (row_is L t k row some)

pub node_is : (L : Library) (t k : ℕ) (m : Bool) (row : EdgeRow) → k < 2 ^ 32 → edge_row_in L t k ≡ Some row
    → (links_of L).node (code t k (sign_of m)) ≡ link_of (row_node m row)
node_is L t k m row few some =
    ap (λ s. link_of (node_by s (edge_of_dart L (code t k (sign_of m))))) (code-minus t k m) ∙ ap (λ e. link_of (node_by m e)) (edge_is L t k m few)
    ∙ ap link_of (node_by_row m (kth (tile_edges L t) k absent_edge)) ∙ ap (λ r. link_of (row_node m r)) (row_is L t k row some)

tail_is : (L : Library) (t k : ℕ) (m : Bool) (row : EdgeRow) → k < 2 ^ 32 → edge_row_in L t k ≡ Some row
    → tail_node (links_of L) (code t k (sign_of m)) ≡ id_of (row_node (not m) row)
tail_is L t k m row few some = ap (λ d. ((links_of L).node d).id) (code-flip t k m) ∙ ap (λ (l : Link). l.id) (node_is L t k (not m) row few some)

name_is : (L : Library) (t k : ℕ) (m : Bool) (row : EdgeRow) → k < 2 ^ 32 → edge_row_in L t k ≡ Some row
    → face_name (links_of L) (code t k (sign_of m)) ≡ face_beyond t (link_of (row_face m row))
name_is L t k m row few some =
    ap (λ s. face_beyond s ((links_of L).face (code t k (sign_of m)))) (code-tile t k m few) ∙ ap (face_beyond t) (face_is L t k m row few some)

-- a dart whose row is there is a home dart by its face
pub home_is : (L : Library) (t k : ℕ) (m : Bool) (row : EdgeRow) → EndsAtLast L → k < 2 ^ 32 → edge_row_in L t k ≡ Some row
    → is_home (links_of L) (code t k (sign_of m)) ≡ not (is_far_face (link_of (row_face m row)))
home_is L t k m row ends few some =
    ap (λ b. b && not (is_far_face ((links_of L).face (code t k (sign_of m))))) (has_some L t k m row ends few some)
    ∙ ap (λ f. not (is_far_face f)) (face_is L t k m row few some)

pub outside_is : (L : Library) (t k : ℕ) (m : Bool) (row : EdgeRow) → EndsAtLast L → k < 2 ^ 32 → edge_row_in L t k ≡ Some row
    → is_outside (links_of L) (code t k (sign_of m)) ≡ is_far_face (link_of (row_face m row))
outside_is L t k m row ends few some =
    ap (λ b. b && is_far_face ((links_of L).face (code t k (sign_of m)))) (has_some L t k m row ends few some)
    ∙ ap is_far_face (face_is L t k m row few some)

-- a dart whose row isn't there is none of both
pub home_none : (L : Library) (t k : ℕ) (m : Bool) → k < 2 ^ 32 → edge_row_in L t k ≡ None → is_home (links_of L) (code t k (sign_of m)) ≡ false
home_none L t k m few none = ap (λ b. b && not (is_far_face ((links_of L).face (code t k (sign_of m))))) (has_none L t k m few none)

pub outside_none : (L : Library) (t k : ℕ) (m : Bool) → k < 2 ^ 32 → edge_row_in L t k ≡ None → is_outside (links_of L) (code t k (sign_of m)) ≡ false
outside_none L t k m few none = ap (λ b. b && is_far_face ((links_of L).face (code t k (sign_of m)))) (has_none L t k m few none)

-- which of them is named
named_is : (L : Library) (t k : ℕ) (m : Bool) (row : EdgeRow) (node : ℕ) (face : Option Beyond) → EndsAtLast L → k < 2 ^ 32 → edge_row_in L t k ≡ Some row
    → is_named (links_of L) node face (code t k (sign_of m)) ≡ row_is_named t row m node face
named_is L t k m row node face ends few some =
    ap (λ b. b && ((tail_node (links_of L) (code t k (sign_of m)) == node) && option_eq same_beyond (face_name (links_of L) (code t k (sign_of m))) face))
    (home_is L t k m row ends few some)
    ∙ ap (λ n. not (is_far_face (link_of (row_face m row))) && ((n == node) && option_eq same_beyond (face_name (links_of L) (code t k (sign_of m))) face))
    (tail_is L t k m row few some)
    ∙ ap (λ f. not (is_far_face (link_of (row_face m row))) && ((id_of (row_node (not m) row) == node) && option_eq same_beyond f face))
    (name_is L t k m row few some)

named_none : (L : Library) (t k : ℕ) (m : Bool) (node : ℕ) (face : Option Beyond) → k < 2 ^ 32 → edge_row_in L t k ≡ None
    → is_named (links_of L) node face (code t k (sign_of m)) ≡ false
named_none L t k m node face few none =
    ap (λ b. b && ((tail_node (links_of L) (code t k (sign_of m)) == node) && option_eq same_beyond (face_name (links_of L) (code t k (sign_of m))) face))
    (home_none L t k m few none)

both_by : {A : Type 0} (d e : A) (p q : Bool) → p ≡ q → (if p then (if q then None else Some d) else (if q then Some e else None)) ≡ None
both_by d e true true same = refl
both_by d e true false same = absurd cc
both_by d e false true same = absurd cc
both_by d e false false same = refl

one_by : (t k : ℕ) (p q : Bool) → (p ≡ q → ⊥)
    → (if p then (if q then None else Some (code t k (sign_of false))) else (if q then Some (code t k (sign_of true)) else None)) ≡ Some (code t k (sign_of q))
one_by t k true true differ = absurd (differ refl)
one_by t k true false differ = refl
one_by t k false true differ = refl
one_by t k false false differ = absurd (differ refl)

only_of : (p : ℕ → Bool) (t k : ℕ) → only p (code t k (sign_of false))
    ≡ (if p (code t k (sign_of false)) then (if p (code t k (sign_of true)) then None else Some (code t k (sign_of false)))
    else (if p (code t k (sign_of true)) then Some (code t k (sign_of true)) else None))
only_of p t k = rw (code-flip t k false) refl

-- of an edge whose row isn't there, no dart is named, and where both darts are, or neither is, none is
pub only_none : (L : Library) (t k : ℕ) (node : ℕ) (face : Option Beyond) → k < 2 ^ 32 → edge_row_in L t k ≡ None
    → only (is_named (links_of L) node face) (code t k 0) ≡ None
only_none L t k node face few none =
    let test : ℕ → Bool = is_named (links_of L) node face in
    only_of test t k ∙ both_by (code t k 0) (code t k 1) (test (code t k 0)) (test (code t k 1))
    (named_none L t k false node face few none ∙ sym (named_none L t k true node face few none))

pub only_both : (L : Library) (t k : ℕ) (row : EdgeRow) (node : ℕ) (face : Option Beyond) → EndsAtLast L → k < 2 ^ 32 → edge_row_in L t k ≡ Some row
    → row_is_named t row false node face ≡ row_is_named t row true node face → only (is_named (links_of L) node face) (code t k 0) ≡ None
only_both L t k row node face ends few some same =
    let test : ℕ → Bool = is_named (links_of L) node face in
    only_of test t k ∙ both_by (code t k 0) (code t k 1) (test (code t k 0)) (test (code t k 1))
    (named_is L t k false row node face ends few some ∙ same ∙ sym (named_is L t k true row node face ends few some))

-- and else the one that is
pub only_one : (L : Library) (t k : ℕ) (row : EdgeRow) (node : ℕ) (face : Option Beyond) → EndsAtLast L → k < 2 ^ 32 → edge_row_in L t k ≡ Some row
    → (row_is_named t row false node face ≡ row_is_named t row true node face → ⊥)
    → only (is_named (links_of L) node face) (code t k 0) ≡ Some (code t k (sign_of (row_is_named t row true node face)))
only_one L t k row node face ends few some differ =
    let test : ℕ → Bool = is_named (links_of L) node face in
    let plus = named_is L t k false row node face ends few some in
    let minus = named_is L t k true row node face ends few some in
    only_of test t k ∙ one_by t k (test (code t k 0)) (test (code t k 1)) (λ e. differ (sym plus ∙ e ∙ minus)) ∙ ap (λ m. Some (code t k (sign_of m))) minus

-- what follows a dart whose row is there
pub follow_is : (L : Library) (t k : ℕ) (m : Bool) (row : EdgeRow) → k < 2 ^ 32 → edge_row_in L t k ≡ Some row
    → follow (links_of L) (code t k (sign_of m))
    ≡ follow_links (links_of L) t (link_of (row_wing m row)) (link_of (row_node m row)) (face_beyond t (link_of (row_face m row)))
unfolding follow
follow_is L t k m row few some =
    let C : DartLinks = links_of L in
    let d : ℕ = code t k (sign_of m) in
    ap (λ s. follow_links C s (C.wing d) (C.node d) (face_name C d)) (code-tile t k m few)
    ∙ ap (λ w. follow_links C t w (C.node d) (face_name C d)) (wing_is L t k m row few some)
    ∙ ap (λ v. follow_links C t (link_of (row_wing m row)) v (face_name C d)) (node_is L t k m row few some)
    ∙ ap (follow_links C t (link_of (row_wing m row)) (link_of (row_node m row))) (name_is L t k m row few some)
