-- The first power that fits.
use Rattle.std.proofs.Common.{◌≡◌, true, false, rules, tests}
use Rattle.std.proofs.lemmas.Iterator.{first_from_Range}
use lib.Ieee.{eq}
use Rattle.hyperparams.specs.Params.{slack_at}
use Rattle.hyperparams.proofs.Slack.{power_is}
use Rattle.hyperparams.proofs.slack_power.Goals as goal

pub returns : goal.returns
returns c =
    power_is c.args.slack c.find.result
    (first_from_Range _ _ _ c.find.result (λ k. eq c.args.slack (slack_at k) ≡ true) (λ k. eq c.args.slack (slack_at k) ≡ false) c.find.ensures.ran
    (λ x q k. search (rules, tests))
    (λ x q k. search (rules, tests)))
