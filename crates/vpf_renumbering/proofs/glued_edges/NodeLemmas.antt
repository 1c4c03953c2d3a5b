-- The nodes of a library by the listing of its turns.
use Rattle.std.proofs.Common.{◌≡◌, ℕ, ◌*◌, ◌^◌, ◌<◌, ◌≤◌, cond, sym, ap, ◌∙◌, subst, arith, List, length, map}
use Rattle.std.specs.List.{concat}
use Rattle.std.specs.List.Sorted.{IsStrictlyIncreasing}
use Rattle.std.proofs.lemmas.List.{length-map}
use Rattle.vpf_base.specs.Limits.{most_rows}
use Rattle.vpf_darts.specs.declared.darts.TileDart.{TileDart}
use Rattle.vpf_darts.specs.Cycles.{IsListing, count_of, first_of}
use Rattle.vpf_darts.specs.Darts.{tile_dart_code}
use Rattle.vpf_darts.specs.Listings.{numbers_of}
use Rattle.vpf_darts.specs.Maps.{turn}
use Rattle.vpf_prims.specs.Primitives.{Library}
use Rattle.vpf_wing.specs.Links.{links_of}
use Rattle.vpf_wing.specs.Inner.DartLaws.{stands_in}
use Rattle.vpf_wing.specs.Walks.{least_after}
use Rattle.vpf_follow.specs.Following.{library_map}
use Rattle.vpf_cut_rings.specs.Inner.Laws.{LeastsBeginCycles}
use Rattle.vpf_tiling_laws.specs.Gluing.Whole.{whole_of}
use Rattle.vpf_tiling_laws.specs.Gluing.Glued.{first_darts, plus_darts}
use Rattle.vpf_renumbering.specs.Inner.Whole.Gathering.{AreHomeDarts}
use Rattle.vpf_renumbering.specs.declared.glued_edges.nodes.Nodes.{Nodes}
use Rattle.vpf_renumbering.specs.Inner.GluedEdges.Glued.{AreNodesOf}
use Rattle.vpf_renumbering.specs.Inner.GluedEdges.Numbers.{AreByList}
use Rattle.vpf_renumbering.proofs.glued_edges.PlusLemmas.{IsPaired, darts_few, listed_row}
use Rattle.vpf_renumbering.proofs.glued_edges.TurnLemmas.{AreLive, firsts_are, listed_once, lists_few, turn_number, turn_stands}

module _ (law : LeastsBeginCycles) (L : Library) (darts : List TileDart) (h : AreHomeDarts L darts) (p : IsPaired L) (turns : List (List TileDart))
    (l : IsListing (turn (library_map (links_of L))) (library_map (links_of L)).live (numbers_of turns)) where
  rise : IsStrictlyIncreasing (whole_of L).order
  rise = subst IsStrictlyIncreasing h.numbers h.in_order.rise

  live : AreLive (library_map (links_of L)).live (whole_of L).order
  live = record { rise = rise; each = p.each }

  -- there are no more turns than darts
  turns_most : length (plus_darts (whole_of L)) ≤ most_rows → length (numbers_of turns) ≤ 2 * most_rows
  turns_most few =
      let less : length (numbers_of turns) ≤ length (whole_of L).order =
      lists_few law (turn (library_map (links_of L))) (library_map (links_of L)).live (whole_of L).order live (numbers_of turns) l in
      let two : length (whole_of L).order ≤ 2 * length (plus_darts (whole_of L)) = darts_few L p rise in
      omega arith

  pub turns_few : length (plus_darts (whole_of L)) ≤ most_rows → length turns < 2 ^ 32
  turns_few few =
      let many : length (numbers_of turns) ≡ length turns = length-map turns (map tile_dart_code) in
      let most : length (numbers_of turns) ≤ 2 * most_rows = turns_most few in
      omega arith

  pub turns_once : (d : ℕ) → count_of d (concat (numbers_of turns)) ≡ cond (stands_in d (map tile_dart_code darts)) 1 0
  turns_once d =
      listed_once law (turn (library_map (links_of L))) (library_map (links_of L)).live (whole_of L).order live (numbers_of turns) l d
      ∙ ap (λ xs. cond (stands_in d xs) 1 0) (sym h.numbers)

  pub nodes_are : length (plus_darts (whole_of L)) ≤ most_rows → (nodes : Nodes) → map tile_dart_code nodes.firsts.items ≡ map first_of (numbers_of turns)
      → AreByList (map tile_dart_code darts) (numbers_of turns) nodes.numbers.items → AreNodesOf L nodes
  nodes_are few nodes firsts by =
      let by' : AreByList (whole_of L).order (numbers_of turns) nodes.numbers.items =
      subst (λ xs. AreByList xs (numbers_of turns) nodes.numbers.items) h.numbers by in
      record {
        few =
            let most : length (numbers_of turns) ≤ 2 * most_rows = turns_most few in
            let all : length (map first_of (numbers_of turns)) ≡ length (numbers_of turns) = length-map (numbers_of turns) first_of in
            let same : length (map first_of (numbers_of turns)) ≡ length (first_darts (whole_of L)) =
            ap length (firsts_are law (turn (library_map (links_of L))) (library_map (links_of L)).live (whole_of L).order live (numbers_of turns) l) in
            omega arith;
        firsts = firsts ∙ firsts_are law (turn (library_map (links_of L))) (library_map (links_of L)).live (whole_of L).order live (numbers_of turns) l;
        one_each = by'.one_each;
        numbers = turn_number law (turn (library_map (links_of L))) (library_map (links_of L)).live (whole_of L).order live (numbers_of turns) l
            nodes.numbers.items by';
        rows = λ d s. listed_row (least_after (turn (library_map (links_of L))) (length (whole_of L).order) d) (first_darts (whole_of L))
            (turn_stands law (turn (library_map (links_of L))) (library_map (links_of L)).live (whole_of L).order live (numbers_of turns) l d s);
      }
