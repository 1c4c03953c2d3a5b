use Rattle.std.proofs.Common.{length, ◌-◌, ◌≤◌, take}
use Rattle.std.specs.Io.KnownBytes.{Appends}
use Rattle.vpf_source.specs.Causes.{Stood}
use Rattle.vpf_source.specs.Writing.{TellsAsBefore}
use Rattle.vpf_source.proofs.sink.put_all.Given as goal

abbrev pub invariant-loop-done : goal.invariant-loop-done
invariant-loop-done g l =
    let written = g.O.Sink.written in
    let faults = g.O.Sink.faults in
    record {
      within : l.done ≤ length l.bytes;
      appended : Appends (written l.fn.sink) (written l.sink) (take l.done l.bytes);
      tells : TellsAsBefore (written l.fn.sink) (written l.sink);
      stood : Stood (faults l.fn.sink) (faults l.sink);
    }

abbrev pub decreases-loop-done : goal.decreases-loop-done
decreases-loop-done g l = length l.bytes - l.done
