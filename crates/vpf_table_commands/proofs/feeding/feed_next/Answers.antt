use Rattle.std.proofs.Common.{◌≡◌, List, ℕ, Err, take, drop, subst}
use Rattle.vpf_triplet.specs.Places.{ForPlace}
use Rattle.vpf_table.specs.Reading.{table_of}
use Rattle.vpf_feed.specs.Inner.Progress.{summed}
use Rattle.vpf_source.specs.Files.{bytes_of}
use Rattle.vpf_table_commands.proofs.Feedings.{fed_more, halts_so, parts_are}
use Rattle.vpf_table_commands.proofs.feeding.feed_next.Goals as goal

pub returns-in-Ok-feed-clause-fed : goal.returns-in-Ok-feed-clause-fed
returns-in-Ok-feed-clause-fed g c = λ files e h.
    let file = bytes_of (files c.args.name.now) in
    let read = rw e at c.in-Ok.ensures.bytes in
    (fed_more file _ c.args.at c.in-Ok.count c.feed.new.self read.same (c.in-Ok-feed.ensures.taken (take c.args.at file) h), read.within, λ some room. read.progress some (rw c.read_at.auto.buf room))

pub returns-in-Err-clause-fed : goal.returns-in-Err-clause-fed
returns-in-Err-clause-fed g c = λ files e h.
    let file = bytes_of (files c.args.name.now) in
    let read = rw e at c.in-Ok.ensures.bytes in
    let behind = drop c.in-Ok.count (drop c.args.at file) in
    halts_so c.args.name.now file c.in-Err.error c.halted.result (subst (λ (x : List ℕ). ForPlace (λ place. summed (table_of x) ≡ Err place) c.in-Err.error) (parts_are file _ c.args.at c.in-Ok.count read.same) (c.in-Err.ensures.every (take c.args.at file) behind h)) c.halted.ensures.told
