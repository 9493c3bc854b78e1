use Rattle.cli_words.proofs.Forms.{check_form, migrate_form, show_form}
use Rattle.cli_words.proofs.ScriptForms.{cover_events_form, cover_form, judge_all_form, judge_form, run_form}
use Rattle.cli_words.proofs.ScriptForms.{run_packets_form}
use Rattle.cli_words.proofs.Generate.{generate_form, script_form, topology_form}
use Rattle.cli_words.proofs.Why.{why_form}
use Rattle.cli_words.proofs.forms_are_taken.Goals as goal

pub returns : goal.returns
returns c = record {
  run = run_form;
  packets = run_packets_form;
  judge = judge_form;
  all_lines = judge_all_form;
  why = why_form;
  cover = cover_form;
  events = cover_events_form;
  check = check_form;
  migrate = migrate_form;
  show = show_form;
  generate = generate_form;
  script = script_form;
  topology = topology_form;
}
