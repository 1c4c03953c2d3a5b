use Rattle.std.proofs.Common.{◌≡◌, Err, Ok, refl}
use Rattle.vpf_library_files.specs.declared.table_files.errors.AddError.TheVariants as adds
use Rattle.vpf_replies.specs.Answer.{Answer}
use Rattle.vpf_feature_writing.specs.Making.{Made}
use Rattle.vpf_library_commands.specs.Made.{files_answer}
use Rattle.vpf_library_commands.specs.Tile.{tiled_answer}
use Rattle.vpf_base.proofs.Results.{if_ok_more}
use Rattle.vpf_library_commands.proofs.TileAnswers.{made_so}
use Rattle.vpf_library_commands.proofs.tiling.tiled_so.Goals as goal

pub returns-in-Ok : goal.returns-in-Ok
returns-in-Ok c ought e =
    let request = c.args.request.now in
    let S = c.args.schema.now in
    let out = c.as_str-out.result.now in
    let made : Made = Ok c.in-Ok.files.items in
    if_ok_more (λ (reply : Answer). reply ≡ files_answer out made) (λ (reply : Answer). reply ≡ tiled_answer request S ought) c.made_in.result
    (λ reply is. made_so request S out made ought reply c.as_str-out.ensures (rw c.in-Ok.is at e) is) (c.made_in.ensures made refl)

pub returns-in-Err-Limit : goal.returns-in-Err-Limit
returns-in-Err-Limit c ought e =
    let request = c.args.request.now in
    let S = c.args.schema.now in
    let out = c.as_str-out.result.now in
    let made : Made = Err (adds.Limit c.in-Err-Limit.name c.in-Err-Limit.passed) in
    if_ok_more (λ (reply : Answer). reply ≡ files_answer out made) (λ (reply : Answer). reply ≡ tiled_answer request S ought) c.made_in-in-Err-Limit.result
    (λ reply is. made_so request S out made ought reply c.as_str-out.ensures (rw (c.in-Err-Limit.is, c.in-Err-Limit.field-0-is) at e) is) (c.made_in-in-Err-Limit.ensures made refl)
