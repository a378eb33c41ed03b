-- A memo that knows nothing yet.
use Rattle.runner.proofs.Starts.{enter_pre, begun}
use Rattle.runner.proofs.start.with.Goals as goal

pub enter-requires : goal.enter-requires
enter-requires g c = search enter_pre

pub returns : goal.returns
returns g c = search begun
