use Rattle.std.proofs.Common.{◌≡◌, ◌∙◌, None, Some, true, cond, sym, ap}
use Rattle.std.specs.Str.Parse.{digits_value}
use Rattle.vpf_drill.specs.Request.{are_few_digits}
use Rattle.vpf_drill.proofs.WordLemmas.{parsed}
use Rattle.vpf_drill.proofs.request.number_in.Goals as goal

pub returns : goal.returns
returns c =
    let few : are_few_digits c.args.word.now ≡ true = ap are_few_digits (sym c.as_bytes.ensures.value) ∙ sym c.are_few_digits.ensures ∙ c.if-not-are_few_digits.false in
    c.ok.ensures.value ∙ parsed c.args.word.now c.parse.result few c.parse.ensures.value.0 ∙ sym (ap (λ b. cond b (Some (digits_value 10 c.args.word.now)) None) few)
