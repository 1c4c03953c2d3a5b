use Rattle.std.proofs.Common.{Some, ◌∙◌, arith}
use Rattle.vpf_base.specs.Bytes.{IsBytes}
use Rattle.vpf_source.proofs.Named.{inserted, still_bytes}
use Rattle.vpf_source.proofs.memory_tree.MemTree.put.Goals as goal

pub returns-clause-ok : goal.returns-clause-ok
returns-clause-ok c =
    let held = c.new-held.ensures ∙ c.in_ok-from_slice.ensures.items in
    λ i. Some (λ other. inserted c.args.name.now c.args.bytes.now c.in_ok-key.key c.args.self.now.files c.insert.new.self c.in_ok-key.ensures.ok
    (rw held at c.in_ok-insert.ensures.updates) other i)

pub invariant_of-self-clause-of_bytes : goal.invariant_of-self-clause-of_bytes
invariant_of-self-clause-of_bytes c =
    let held = c.new-held.ensures ∙ c.in_ok-from_slice.ensures.items in
    let new : IsBytes c.args.bytes.now = λ i. omega (arith, c.type_inv.bytes i) in
    still_bytes c.args.name.now c.args.bytes.now c.in_ok-key.key c.args.self.now.files c.insert.new.self c.insert.result c.in_ok-key.ensures.ok
    (rw held at c.insert.ensures.updates) c.insert.ensures.err c.args.self.now.of_bytes new
