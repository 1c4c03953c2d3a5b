use Rattle.std.proofs.Common.{◌≡◌, ℕ, ◌≤◌, ◌*◌, List, length, ap, sym, ◌∙◌, subst}
use Rattle.std.proofs.lemmas.List.{length-map}
use Rattle.vpf_base.specs.Limits.{most_rows}
use Rattle.vpf_darts.specs.Darts.{tile_dart_code}
use Rattle.vpf_glue.proofs.sources.edges_number_few.Goals as goal

pub returns-clause-edges : goal.returns-clause-edges
returns-clause-edges c =
    subst (λ (n : ℕ). n ≤ most_rows)
    (sym (length-map c.edges-edges.result.now tile_dart_code) ∙ ap (λ (ds : List ℕ). length ds) c.edges-edges.ensures.edges) c.edges-edges.ensures.few

pub returns-clause-nodes : goal.returns-clause-nodes
returns-clause-nodes c =
    subst (λ (n : ℕ). n ≤ 2 * most_rows)
    (sym (length-map c.nodes-nodes.result.now tile_dart_code) ∙ ap (λ (ds : List ℕ). length ds) c.nodes-nodes.ensures.nodes) c.nodes-nodes.ensures.few
