-- What the objects in memory hold.
use Rattle.std.specs.Prelude.{ℕ, List}
use Rattle.std.specs.BTreeMap.{get_by_text}
use Rattle.vpf_source.specs.Inner.Calls.{Calls}
use Rattle.vpf_source.specs.Files.{Files}
use Rattle.vpf_source.specs.declared.memory_tree.MemTree.{MemTree}
use Rattle.vpf_source.specs.declared.memory_sink.MemSink.{MemSink}

-- the files of a tree in memory
abbrev pub tree_files : MemTree → Files
tree_files tree name = get_by_text tree.files name

-- the calls of a tree in memory so far
abbrev pub tree_calls : MemTree → Calls
tree_calls tree = tree.calls

-- the most bytes that one read of a tree in memory gives
abbrev pub tree_piece : MemTree → ℕ
tree_piece tree = tree.piece

-- the bytes that a sink in memory was given
abbrev pub sink_bytes : MemSink → List ℕ
sink_bytes sink = sink.bytes.items

-- the writes to a sink in memory so far
abbrev pub sink_calls : MemSink → Calls
sink_calls sink = sink.calls

-- the most bytes that one write to a sink in memory takes
abbrev pub sink_piece : MemSink → ℕ
sink_piece sink = sink.piece
