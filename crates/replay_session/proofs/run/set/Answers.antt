-- `set` meets its contract at `frames`. The check finds the other lines alone.
use Rattle.std.proofs.Common.{refl}
use Rattle.replay_session.proofs.run.set.Goals as goal

pub returns-in-Frames : goal.returns-in-Frames
returns-in-Frames c = let k = c.in-Frames in record { frames = λ n b f. refl; word = λ p w g l. cc; other = λ f g. absurd (f k.count k.fill k.is) }
