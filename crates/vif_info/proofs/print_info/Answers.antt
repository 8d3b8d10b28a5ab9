use Rattle.std.proofs.Common.{ap, ◌∙◌}
use Rattle.serde_json.specs.Written.{compact_text, has_float}
use Rattle.stripe_layout.specs.Information.{info_of}
use Rattle.vif_info.specs.Laws.Text.{no_float, text_is, text_reads_back}
use Rattle.vif_info.proofs.print_info.Goals as goal

pub returns-clause-text : goal.returns-clause-text
returns-clause-text c = c.in_ok-bytes.ensures.text (ap has_float c.in_ok-value.ensures ∙ no_float c.args.info.now) ∙ ap compact_text c.in_ok-value.ensures ∙ text_is c.args.info.now

pub returns-clause-reads_back : goal.returns-clause-reads_back
returns-clause-reads_back c = λ range. ap info_of (returns-clause-text c) ∙ text_reads_back c.args.info.now range
