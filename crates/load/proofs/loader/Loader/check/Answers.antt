use Rattle.load.proofs.Obeying.{check_exactly}
use Rattle.load.proofs.loader.Loader.check.Goals as goal

pub returns : goal.returns
returns c =
    let e = c.check_whole.ensures in
    record { exactly = check_exactly c.args.text.now c.check_whole.result e.told; told = e.told; within = e.within; near = e.near }
