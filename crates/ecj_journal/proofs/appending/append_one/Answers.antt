use Rattle.ecj_journal.proofs.Halves.{then_synced, grows_appended, grows_synced, grows_within}
use Rattle.ecj_journal.proofs.appending.append_one.Goals as goal

pub returns-in_err-sync-clause-effect : goal.returns-in_err-sync-clause-effect
returns-in_err-sync-clause-effect g c = λ told. then_synced (c.append.ensures.effect told) (c.sync.ensures.effect told)

pub returns-clause-effect : goal.returns-clause-effect
returns-clause-effect g c = λ told. then_synced (c.append.ensures.effect told) (c.sync.ensures.effect told)

pub returns-in_err-append-clause-grown : goal.returns-in_err-append-clause-grown
returns-in_err-append-clause-grown g c = λ told. grows_within c.requires.few (grows_appended _ _ _ (c.append.ensures.effect told).partly)

pub returns-in_err-sync-clause-grown : goal.returns-in_err-sync-clause-grown
returns-in_err-sync-clause-grown g c = λ told.
    grows_synced (grows_within c.requires.few (grows_appended _ _ _ (c.append.ensures.effect told).partly)) (c.sync.ensures.effect told).partly

pub returns-clause-grown : goal.returns-clause-grown
returns-clause-grown g c = λ told.
    grows_synced (grows_within c.requires.few (grows_appended _ _ _ (c.append.ensures.effect told).partly)) (c.sync.ensures.effect told).partly
