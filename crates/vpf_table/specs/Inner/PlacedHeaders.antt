-- What contracts see of a header with its offsets.
use Rattle.vpf_head.specs.Head.{Head}
use Rattle.vpf_table.specs.declared.placed_header.PlacedHeader.TheInside.{Inside}
use Rattle.vpf_table.specs.Inner.Offsets.{AreOffsets}

-- the header
abbrev pub placed_head : Inside → Head
placed_head p = p.header

-- the offsets are those of its columns
abbrev pub HasOffsets : Inside → Type 0
HasOffsets p = AreOffsets p.header.columns p.offsets.items
