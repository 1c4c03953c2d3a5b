use Rattle.std.proofs.Common.{ℕ, List, ◌++◌, ap, rules, string_bytes, sym}
use Rattle.std.specs.Prelude.{IfSome, codes}
use Rattle.std.specs.Char.{IsScalar}
use Rattle.std.proofs.lemmas.Str.{IsUtf8-string_bytes}
use Rattle.vpf_source.proofs.names.LastLetters.{named}
use Rattle.vpf_source.proofs.names.indexes.index_name.Goals as goal

pub returns : goal.returns
unfolding lib.Utf8.encode
returns c =
    let scalar : IfSome c.pop.result (λ letter. IsScalar letter) = search rules in
    let dropped = named (string_bytes c.in_ok-text.text) (string_bytes c.pop.new.self) c.pop.result (IsUtf8-string_bytes c.pop.new.self) scalar c.pop.ensures.bytes (search rules) (search rules) in
    rw (c.new.ensures, c.in_ok-push.ensures.bytes, ← c.in_ok-text.ensures.ok) (ap (λ (t : List ℕ). t ++ codes "x") (sym dropped))
