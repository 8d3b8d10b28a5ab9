use Rattle.std.proofs.Common.{◌≡◌, ◌++◌, subst}
use Rattle.std.specs.Result.{OnOk}
use Rattle.plan_steps.specs.Beginning.{first_states}
use Rattle.plan_steps.specs.Laws.Beginning.{list_encode, list_rebuild, list_balance, list_decode}
use Rattle.plan_steps.proofs.plan.Plan.list.Goals as goal

pub returns-in-Encode : goal.returns-in-Encode
returns-in-Encode c = subst (λ names. OnOk c.list_encode.result (c.list_encode.new.files.items ≡ c.args.files.now.items ++ first_states c.args.self.now names))
    (list_encode c.args.self.now c.in-Encode.ratio c.in-Encode.is) c.list_encode.ensures

pub returns-in-Rebuild : goal.returns-in-Rebuild
returns-in-Rebuild c = subst (λ names. OnOk c.list_mend.result (c.list_mend.new.files.items ≡ c.args.files.now.items ++ first_states c.args.self.now names))
    (list_rebuild c.args.self.now c.in-Rebuild.is) c.list_mend.ensures

pub returns-in-Balance : goal.returns-in-Balance
returns-in-Balance c = subst (λ names. OnOk c.list_mend-in-Balance.result (c.list_mend-in-Balance.new.files.items ≡ c.args.files.now.items ++ first_states c.args.self.now names))
    (list_balance c.args.self.now c.in-Balance.is) c.list_mend-in-Balance.ensures

pub returns-in-Decode : goal.returns-in-Decode
returns-in-Decode c = subst (λ names. OnOk c.list_decode.result (c.list_decode.new.files.items ≡ c.args.files.now.items ++ first_states c.args.self.now names))
    (list_decode c.args.self.now c.in-Decode.is) c.list_decode.ensures
