-- A verdict that shows a state shows the one after the pair.
use Rattle.std.proofs.Common.{◌≡◌, ℕ, ◌==◌, ◌∷◌, true, Some}
use Rattle.std.proofs.Common.{sym, ap}
use Rattle.std.proofs.lemmas.Bool.{eq-eqb}
use Rattle.spec_links.specs.Due.{due}
use Rattle.spec_interfaces.specs.Terms.{Plan, InterfaceEvent, Verdict, History, DeviceTdi, Event, state_code}
use Rattle.spec_interfaces.specs.Sites.{Site, site_at}
use Rattle.spec_interfaces.specs.Views.{is_number, number_in}
use Rattle.spec_interfaces.specs.Devices.{around_at_site, interface_at, interface_asked}
unfoldable use Rattle.spec_interfaces.specs.Devices.{devices}
use Rattle.spec_interfaces.specs.Due.{asked_state}
use Rattle.spec_interfaces.proofs.Floors.{number_at}
use Rattle.law_states.specs.States.{state_at, ShowsState}
use Rattle.law_states.proofs.Told.{OfRefusals, OfDone, due_tells}
use Rattle.law_locks.proofs.TrueViews.{interface_own}
use Rattle.law_locks.proofs.AllLaws.{own_number as own_site}
use Rattle.script_events.specs.declared.event.Event.TheVariants as event
use Rattle.script_events.specs.declared.event.InterfaceEvent.TheVariants as ie

own_code : (plan : Plan) (h : History) (e : InterfaceEvent) (w : Verdict) (x : Site)
    → is_number (number_in e) x.number ≡ true
    → state_code (interface_asked (around_at_site plan h x) x e w (interface_at plan h x)).state
    ≡ state_code (state_at plan ((event.Interface e, w) ∷ h) x)
own_code plan h e w x own = ap (λ (t : DeviceTdi). state_code t.state) (sym (interface_own plan h e w x own))

abbrev Shows : Plan → History → InterfaceEvent → Verdict → Type 0
Shows plan h e w = ShowsState plan h (event.Interface e) w

of_refusals : (plan : Plan) (h : History) (e : InterfaceEvent) → OfRefusals (Shows plan h e)
of_refusals plan h e = record {
  view = λ view. tt;
  report = tt;
  fresh = λ draw needs. tt;
  secure = λ s. tt;
  request = λ n. tt;
  reply = λ n. tt;
  device = λ n code. tt;
  nothing = tt;
}

-- the number of the event is that of the interface
pub own_number : (plan : Plan) (i j : ℕ) (x : Site) → Some i ≡ Some j → site_at plan j ≡ Some x → (i == x.number) ≡ true
own_number plan i j x named at = eq-eqb i x.number (cc (number_at plan j x at))

done : (plan : Plan) (h : History) (e : InterfaceEvent) (j : ℕ) (x : Site) → number_in e ≡ Some j
    → site_at plan j ≡ Some x → OfDone (Shows plan h e) x (asked_state plan h x) e
done plan h (ie.State i loss) j x named at = record {
  interface = x;
  known = own_site plan j x at;
  is = own_code plan h (ie.State i loss) _ x (own_number plan i j x named at);
}
done plan h (ie.Write i register value) j x named at = record {
  interface = x;
  known = own_site plan j x at;
  is = own_code plan h (ie.Write i register value) _ x (own_number plan i j x named at);
}
done plan h (ie.Flr i) j x named at = record {
  interface = x;
  known = own_site plan j x at;
  is = own_code plan h (ie.Flr i) _ x (own_number plan i j x named at);
}
done plan h (ie.Firmware i) j x named at = record {
  interface = x;
  known = own_site plan j x at;
  is = own_code plan h (ie.Firmware i) _ x (own_number plan i j x named at);
}
done plan h (ie.Lock i loss) j x named at = λ nonce. tt
done plan h (ie.Report i loss) j x named at = λ report. tt
done plan h (ie.Start i loss) j x named at = tt
done plan h (ie.Halt i loss) j x named at = tt
done plan h (ie.Bind i line stream loss) j x named at = tt
done plan h (ie.Unbind i line stream loss) j x named at = tt
done plan h (ie.View i) j x named at = tt
done plan h (ie.Memory at len) j x named known = tt

pub shows_state : (plan : Plan) (h : History) (e : Event) (w : Verdict) → w ≡ due plan h e → ShowsState plan h e w
shows_state plan h (event.Interface e) w is =
    due_tells (Shows plan h e) (of_refusals plan h e) plan h e w is (λ bytes. tt) (done plan h e)
shows_state plan h e w is = tt
