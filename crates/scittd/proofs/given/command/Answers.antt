use Rattle.std.proofs.Common.{rules, ap₂, codes, ◌≡◌, ◌∙◌}
use Rattle.std.proofs.lemmas.Result.{IfOk-weaker}
use Rattle.clap.specs.Words.{App, app_of, new_app, rule_of, with_rule}
use Rattle.scittd.specs.Words.{needed}
use Rattle.scittd.proofs.given.command.Goals as goal

abbrev first : App
first = with_rule (new_app (codes "scittd")) (needed (codes "LOG"))

abbrev second : App
second = with_rule first (needed (codes "SEED"))

abbrev third : App
third = with_rule second (needed (codes "PARAMS"))

abbrev fourth : App
fourth = with_rule third (needed (codes "LISTEN"))

pub returns : goal.returns
returns c =
    let log_is : rule_of c.needed.result ≡ needed (codes "LOG") = search rules in
    let seed_is : rule_of c.needed-2.result ≡ needed (codes "SEED") = search rules in
    let params_is : rule_of c.needed-3.result ≡ needed (codes "PARAMS") = search rules in
    let listen_is : rule_of c.needed-4.result ≡ needed (codes "LISTEN") = search rules in
    let workers_is : rule_of c.needed-5.result ≡ needed (codes "WORKERS") = search rules in
    let first_is : app_of c.in_ok-arg.field-0 ≡ first =
    c.in_ok-arg.ensures.shape c.needed.ensures.local ∙ ap₂ with_rule c.new.ensures.app log_is in
    let second_is : app_of c.in_ok-arg-2.field-0 ≡ second =
    c.in_ok-arg-2.ensures.shape c.needed-2.ensures.local ∙ ap₂ with_rule first_is seed_is in
    let third_is : app_of c.in_ok-arg-3.field-0 ≡ third =
    c.in_ok-arg-3.ensures.shape c.needed-3.ensures.local ∙ ap₂ with_rule second_is params_is in
    let fourth_is : app_of c.in_ok-arg-4.field-0 ≡ fourth =
    c.in_ok-arg-4.ensures.shape c.needed-4.ensures.local ∙ ap₂ with_rule third_is listen_is in
    IfOk-weaker c.arg-5.result _ _ (λ r added. added.shape c.needed-5.ensures.local ∙ ap₂ with_rule fourth_is workers_is) c.arg-5.ensures
