use Rattle.all_links.proofs.Terms.{[], Some, slice_get_within}
use Rattle.line_arrivals.proofs.{answered_no_bad_reply}
use Rattle.all_links.proofs.Asked.{is_there, is_found, answered}
use Rattle.all_links.proofs.links.Links.carry_interface.Goals as goal

pub operate_interface-requires-clause-here : goal.operate_interface-requires-clause-here
operate_interface-requires-clause-here c =
    let s = c.args.self.now in
    (is_there s.keeper.interfaces s.ends c.args.number (Some c.args.at) c.requires.here).link_there

pub operate_interface-requires-clause-interface : goal.operate_interface-requires-clause-interface
operate_interface-requires-clause-interface c =
    let m = c.args.self.now.keeper.interfaces in
    let x = is_found m c.args.self.now.ends c.args.number c.args.at c.requires.here in
    slice_get_within m.interfaces c.args.number x.kept x.kept_there

pub returns-clause-answered : goal.returns-clause-answered
returns-clause-answered c some =
    answered c.args.self.now c.args.number c.args.at c.args.op c.args.loss c.operate_interface.result
    c.operate_interface.new.self c.operate_interface.new.keeper c.requires.here c.operate_interface.ensures some

pub returns-clause-no_bad_reply : goal.returns-clause-no_bad_reply
returns-clause-no_bad_reply c some =
    answered_no_bad_reply c.args.number c.args.loss [] c.operate_interface.result
    (answered c.args.self.now c.args.number c.args.at c.args.op c.args.loss c.operate_interface.result
    c.operate_interface.new.self c.operate_interface.new.keeper c.requires.here c.operate_interface.ensures some [])
