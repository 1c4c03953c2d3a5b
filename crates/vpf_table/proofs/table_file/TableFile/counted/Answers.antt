use Rattle.vpf_table.proofs.table_file.TableFile.counted.Goals as goal

pub returns : goal.returns
returns c =
    let t = c.self.invariant in
    rw (← c.self.view_is) record {
      head = c.self.inside.header.value;
      begun = t.begun;
      counts = record { read = t.read; count = t.count; fixed = t.fixed; known = t.known; inside = t.inside };
    }
