use Rattle.std.proofs.Common.{◌≡◌, ◌++◌, ℤ, codes, string_bytes, w32, subst}
use Rattle.std.proofs.lemmas.Int.{to_z-of_z}
use Rattle.std.specs.Prelude.{OnOk}
use Rattle.std.specs.Fmt.{decimal, signed_decimal}
use Rattle.vpf_findings.specs.Text.Texts.{◌&◌}
use Rattle.vpf_library_commands.proofs.TileAnswers.{put_behind}
use Rattle.vpf_library_commands.proofs.tiling.put_unknown.Goals as goal

pub returns : goal.returns
returns c =
    let told = subst (λ (z : ℤ). OnOk c.put_signed.result (string_bytes c.put_signed.new.text ≡ string_bytes c.put_number.new.text ++ (codes ": " & signed_decimal z)))
    (to_z-of_z w32 c.args.tile c.ranges.tile) c.put_signed.ensures in
    put_behind c.put_signed.result (codes "unknown-tile face ") (decimal c.args.face) (codes ": " & signed_decimal c.args.tile) (string_bytes c.args.text.now)
    (string_bytes c.put_number.new.text) (string_bytes c.put_signed.new.text) c.in_ok-put_number.ensures told
