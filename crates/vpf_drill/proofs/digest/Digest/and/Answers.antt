use Rattle.std.proofs.Common.{◌≡◌, ◌+◌, ◌*◌, ◌%◌, ◌∙◌, ap, sym, refl, arith, drop}
use Rattle.std.proofs.Math.Nat.{mod-add-mod}
use Rattle.std.proofs.lemmas.List.{at_drop_all, at_drop_more}
use Rattle.vpf_drill.specs.Digest.{digest_after}
use Rattle.vpf_drill.proofs.digest.Digest.and.Goals as goal

pub loop-byte-init : goal.loop-byte-init
loop-byte-init c = refl

pub loop-byte-preserved : goal.loop-byte-preserved
loop-byte-preserved c =
    let d = c.loop-byte.digest in
    let i = c.loop-byte.byte-index in
    let swap : d * 31 ≡ 31 * d = omega arith in
    ap (λ x. digest_after x (drop (i + 1) c.args.bytes.now))
    (mod-add-mod (d * 31) 4294967296 c.from.result ∙ ap (λ x. (x + c.from.result) % 4294967296) swap ∙ ap (λ b. (31 * d + b) % 4294967296) c.from.ensures)
    ∙ sym (at_drop_more (digest_after d) c.args.bytes.now i 0 c.loop-byte-test.true)
    ∙ c.loop-byte.invariant

pub returns : goal.returns
returns c = sym (at_drop_all (digest_after c.loop-byte.digest) c.args.bytes.now c.loop-byte.byte-index c.loop-byte-test.false) ∙ c.loop-byte.invariant
