use Rattle.vpf_library_commands.proofs.tiling.put_reason.Goals as goal

pub returns-in-EntityOutside : goal.returns-in-EntityOutside
returns-in-EntityOutside c = rw c.in-EntityOutside.is c.put_number-in-EntityOutside.ensures
