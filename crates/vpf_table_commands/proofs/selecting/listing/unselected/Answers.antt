use Rattle.vpf_table_commands.proofs.selecting.listing.unselected.Goals as goal

pub returns-in-Disagrees : goal.returns-in-Disagrees
returns-in-Disagrees c column found e s = rw (rw c.in-Disagrees.is at s) (c.unlike.ensures column e)
