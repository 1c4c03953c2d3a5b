use Rattle.vpf_feed.proofs.staying.Staying.{fault_stays}
use Rattle.vpf_feed.proofs.staying.laws.faults_stay.Goals as goal

pub returns : goal.returns
returns c = λ bytes more place six f h k. fault_stays bytes more place six f h k
