use Rattle.load.proofs.Obeying.{load_exactly}
use Rattle.load.proofs.loader.Loader.load.Goals as goal

pub returns : goal.returns
returns c =
    let e = c.load_whole.ensures in
    record { exactly = load_exactly c.args.text.now c.args.plan.now c.load_whole.result _ e.loads; loads = e.loads; within = e.within }
