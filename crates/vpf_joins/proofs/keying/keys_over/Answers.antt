use Rattle.std.proofs.Common.{◌≡◌, ◌∙◌, ℕ, ◌+◌, List, ap, arith}
use Rattle.std.specs.List.{flat_map, range_with_len}
use Rattle.vpf_prims.specs.Coverages.{last_tile}
use Rattle.vpf_joins.specs.Keys.Keys.{Keyed}
use Rattle.vpf_joins.specs.Joining.{keyed_in_table, table_in_tile}
use Rattle.vpf_joins.proofs.TileLemmas.{keys_more}
use Rattle.vpf_joins.proofs.keying.keys_over.Goals as goal
use Rattle.vpf_joins.proofs.keying.keys_over.Goals.{else-loop-t-test, then-loop-t-test+in_ok-put_tile_keys+else-t-t-end}

pub loop-t-preserved : goal.loop-t-preserved
loop-t-preserved c =
    keys_more (λ t. keyed_in_table t c.args.key.now (table_in_tile c.args.coverage.now c.args.name t)) c.loop-t.t c.loop-t.keys.items c.put_tile_keys.new.keys.items
    c.in_ok-put_tile_keys.ensures c.loop-t.invariant

pub returns : goal.returns
returns c =
    let f : ℕ → List Keyed = λ t. keyed_in_table t c.args.key.now (table_in_tile c.args.coverage.now c.args.name t) in
    elim c.loop-t-test.branch [
      | else-loop-t-test w ↦ absurd (omega arith)
      | then-loop-t-test+in_ok-put_tile_keys+else-t-t-end w ↦
          (let last : c.loop-t.t ≡ last_tile c.args.coverage.now = omega (arith, c.tiles-t-end.ensures) in
          rw w.keys-is (keys_more f c.loop-t.t c.loop-t.keys.items w.put_tile_keys.new.keys.items w.in_ok-put_tile_keys.ensures c.loop-t.invariant
          ∙ ap (λ (t : ℕ). flat_map f (range_with_len 0 (t + 1))) last))
    ]
