use Rattle.std.proofs.Common.{◌≡◌, ◌++◌, take, string_bytes, codes}
use Rattle.std.specs.List.{flat_map}
use Rattle.vpf_findings.specs.Text.Texts.{◌&◌}
use Rattle.vpf_replies.specs.Listings.{numbered_text}
use Rattle.vpf_replies.proofs.listings.put_cycle.Given as goal

abbrev pub invariant-loop-dart : goal.invariant-loop-dart
invariant-loop-dart l = string_bytes l.text ≡ string_bytes l.initial.text ++ flat_map (λ other. codes " " & numbered_text other) (take l.dart-index l.others)
