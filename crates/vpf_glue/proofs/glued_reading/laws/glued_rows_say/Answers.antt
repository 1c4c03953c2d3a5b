use Rattle.vpf_glue.proofs.glued_reading.RowLemmas.{edge_rows_say, entity_rows_say, face_rows_say, node_rows_say, rings_are_read}
use Rattle.vpf_glue.proofs.glued_reading.laws.glued_rows_say.Goals as goal

pub returns-clause-edges : goal.returns-clause-edges
returns-clause-edges c = edge_rows_say

pub returns-clause-faces : goal.returns-clause-faces
returns-clause-faces c = face_rows_say

pub returns-clause-rings : goal.returns-clause-rings
returns-clause-rings c = rings_are_read

pub returns-clause-nodes : goal.returns-clause-nodes
returns-clause-nodes c = node_rows_say

pub returns-clause-entities : goal.returns-clause-entities
returns-clause-entities c = entity_rows_say
