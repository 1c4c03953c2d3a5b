use Rattle.std.proofs.Common.{◌≡◌, ◌≤◌, ℕ, List, length, map, sym, ap, subst, ◌∙◌, arith}
use Rattle.std.specs.Prelude.{All}
use Rattle.std.proofs.lemmas.List.{length-map}
use Rattle.std.proofs.lemmas.Result.{err_from_is_err_and}
use Rattle.vpf_prims.specs.declared.rows.Edge.{Edge}
use Rattle.vpf_prims.specs.Edges.{IsEdge}
use Rattle.vpf_prims.specs.Reading.{primitives_of}
use Rattle.vpf_wing.specs.declared.rings.Ring.{Ring}
use Rattle.vpf_wing.specs.CycleLines.{faces_of_rings, own_rings, ring_cycle}
use Rattle.vpf_wing.proofs.RangeLemmas.{faces_in, starts_in}
use Rattle.vpf_wing.proofs.TileLemmas.{or_later}
use Rattle.vpf_findings.specs.Inner.FirstLaws.{or_first}
use Rattle.vpf_wing.proofs.rings.check_rings.Goals as goal

pub new-requires-clause-few : goal.new-requires-clause-few
new-requires-clause-few c =
    let T = c.args.tile.now in
    let R = own_rings (primitives_of T.tables) in
    let rings : c.in_ok-rings.rings.items ≡ own_rings (primitives_of c.args.tile.now.tables) = c.in_ok-rings.ensures.rings in
    let keys : c.in_ok-faces_of.field-0.items ≡ faces_of_rings (own_rings (primitives_of c.args.tile.now.tables)) =
    c.in_ok-faces_of.ensures ∙ ap faces_of_rings (c.deref.ensures.value ∙ rings) in
    omega (arith, ap length keys, length-map R (λ (ring : Ring). ring.face), ap length rings, c.in_ok-rings.ensures.few)

pub new-requires-clause-below : goal.new-requires-clause-below
new-requires-clause-below c =
    let T = c.args.tile.now in
    let R = own_rings (primitives_of T.tables) in
    let rings : c.in_ok-rings.rings.items ≡ own_rings (primitives_of c.args.tile.now.tables) = c.in_ok-rings.ensures.rings in
    let keys : c.in_ok-faces_of.field-0.items ≡ faces_of_rings (own_rings (primitives_of c.args.tile.now.tables)) =
    c.in_ok-faces_of.ensures ∙ ap faces_of_rings (c.deref.ensures.value ∙ rings) in
    subst (λ (xs : List ℕ). All (λ face. face ≤ c.faces.result) xs) (sym keys)
    (subst (λ (n : ℕ). All (λ face. face ≤ n) (faces_of_rings R)) (sym c.faces.ensures.value) (faces_in (primitives_of T.tables) c.names_its_own.ensures))

pub cycles_of-requires : goal.cycles_of-requires
cycles_of-requires c =
    let T = c.args.tile.now in
    let R = own_rings (primitives_of T.tables) in
    let rings : c.in_ok-rings.rings.items ≡ own_rings (primitives_of c.args.tile.now.tables) = c.in_ok-rings.ensures.rings in
    let all = subst (λ (es : List Edge). All (λ (ring : Ring). IsEdge (length es) ring.start_edge) R) (sym c.requires) (starts_in (primitives_of T.tables) c.names_its_own.ensures) in
    subst (λ (rs : List Ring). All (λ (ring : Ring). IsEdge (length c.args.cycles.now) ring.start_edge) rs) (sym (c.deref-2.ensures.value ∙ rings)) all

pub check_ring_rows-requires-clause-edges : goal.check_ring_rows-requires-clause-edges
check_ring_rows-requires-clause-edges c =
    let T = c.args.tile.now in
    let R = own_rings (primitives_of T.tables) in
    let rings : c.in_ok-rings.rings.items ≡ own_rings (primitives_of c.args.tile.now.tables) = c.in_ok-rings.ensures.rings in
    let all = subst (λ (es : List Edge). All (λ (ring : Ring). IsEdge (length es) ring.start_edge) R) (sym c.requires) (starts_in (primitives_of T.tables) c.names_its_own.ensures) in
    subst (λ (rs : List Ring). All (λ (ring : Ring). IsEdge (length c.args.cycles.now) ring.start_edge) rs) (sym (c.deref-3.ensures.value ∙ rings)) all

pub returns-in_err-check_pointers : goal.returns-in_err-check_pointers
returns-in_err-check_pointers c =
    let T = c.args.tile.now in
    let R = own_rings (primitives_of T.tables) in
    let rings : c.in_ok-rings.rings.items ≡ own_rings (primitives_of c.args.tile.now.tables) = c.in_ok-rings.ensures.rings in
    let keys : c.in_ok-faces_of.field-0.items ≡ faces_of_rings (own_rings (primitives_of c.args.tile.now.tables)) =
    c.in_ok-faces_of.ensures ∙ ap faces_of_rings (c.deref.ensures.value ∙ rings) in
    let faces : c.in_ok-faces.faces ≡ faces_of_rings (own_rings (primitives_of c.args.tile.now.tables)) = c.in_ok-faces.ensures ∙ keys in
    let cycles : c.in_ok-ring_cycles.ring_cycles ≡ map (ring_cycle c.args.cycles.now) (own_rings (primitives_of c.args.tile.now.tables)) =
    c.in_ok-ring_cycles.ensures ∙ (c.in_ok-cycles_of.ensures.cycles ∙ ap (map (ring_cycle c.args.cycles.now)) (c.deref-2.ensures.value ∙ rings)) in
    let p = err_from_is_err_and c.from_residual-in_err-check_pointers.result c.from_residual-in_err-check_pointers.ensures.1 in
    rw (p.1, p.2) (or_first _ _ _ (rw faces at c.in_err-check_pointers.ensures))

pub returns-in_err-check_ring_rows : goal.returns-in_err-check_ring_rows
returns-in_err-check_ring_rows c =
    let T = c.args.tile.now in
    let R = own_rings (primitives_of T.tables) in
    let rings : c.in_ok-rings.rings.items ≡ own_rings (primitives_of c.args.tile.now.tables) = c.in_ok-rings.ensures.rings in
    let keys : c.in_ok-faces_of.field-0.items ≡ faces_of_rings (own_rings (primitives_of c.args.tile.now.tables)) =
    c.in_ok-faces_of.ensures ∙ ap faces_of_rings (c.deref.ensures.value ∙ rings) in
    let faces : c.in_ok-faces.faces ≡ faces_of_rings (own_rings (primitives_of c.args.tile.now.tables)) = c.in_ok-faces.ensures ∙ keys in
    let cycles : c.in_ok-ring_cycles.ring_cycles ≡ map (ring_cycle c.args.cycles.now) (own_rings (primitives_of c.args.tile.now.tables)) =
    c.in_ok-ring_cycles.ensures ∙ (c.in_ok-cycles_of.ensures.cycles ∙ ap (map (ring_cycle c.args.cycles.now)) (c.deref-2.ensures.value ∙ rings)) in
    let p = err_from_is_err_and c.from_residual-in_err-check_ring_rows.result c.from_residual-in_err-check_ring_rows.ensures.1 in
    let are = c.deref-3.ensures.value ∙ rings in
    rw (p.1, p.2) (or_later _ _ _ (rw faces at c.in_ok-check_pointers.ensures)
    (or_later _ _ _ (rw cycles at c.in_ok-check_ringless.ensures) (rw (faces, cycles, are) at c.in_err-check_ring_rows.ensures)))

pub returns : goal.returns
returns c =
    let T = c.args.tile.now in
    let R = own_rings (primitives_of T.tables) in
    let rings : c.in_ok-rings.rings.items ≡ own_rings (primitives_of c.args.tile.now.tables) = c.in_ok-rings.ensures.rings in
    let keys : c.in_ok-faces_of.field-0.items ≡ faces_of_rings (own_rings (primitives_of c.args.tile.now.tables)) =
    c.in_ok-faces_of.ensures ∙ ap faces_of_rings (c.deref.ensures.value ∙ rings) in
    let faces : c.in_ok-faces.faces ≡ faces_of_rings (own_rings (primitives_of c.args.tile.now.tables)) = c.in_ok-faces.ensures ∙ keys in
    let cycles : c.in_ok-ring_cycles.ring_cycles ≡ map (ring_cycle c.args.cycles.now) (own_rings (primitives_of c.args.tile.now.tables)) =
    c.in_ok-ring_cycles.ensures ∙ (c.in_ok-cycles_of.ensures.cycles ∙ ap (map (ring_cycle c.args.cycles.now)) (c.deref-2.ensures.value ∙ rings)) in
    let are = c.deref-3.ensures.value ∙ rings in
    or_later _ _ _ (rw faces at c.in_ok-check_pointers.ensures)
    (or_later _ _ _ (rw cycles at c.in_ok-check_ringless.ensures) (rw (faces, cycles, are) at c.in_ok-check_ring_rows.ensures))
