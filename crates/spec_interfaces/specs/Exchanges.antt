-- How far an operation on an interface came, by its verdict. It begins anew at each event; its exchanges are numbered
-- from 1.
use Rattle.std.specs.Prelude.{ℕ, ◌==◌, ◌||◌, Bool, true, false, nat_lt, nat_le}
use Rattle.spec_interfaces.specs.Terms.{Verdict, InterfaceVerdict}
use Rattle.event_verdicts.specs.declared.verdict.Verdict.TheVariants as v
use Rattle.ide_types.specs.declared.verdict.InterfaceVerdict.TheVariants as iv

-- it ended
abbrev pub is_interface_done : InterfaceVerdict → Bool
is_interface_done (iv.Locked i nonce) = true
is_interface_done (iv.Reported i report) = true
is_interface_done (iv.Started i draw) = true
is_interface_done (iv.Halted i needs) = true
is_interface_done (iv.State i state) = true
is_interface_done (iv.Bound i line) = true
is_interface_done (iv.Unbound i line) = true
is_interface_done _ = false

-- the request of the exchange reached the device
abbrev pub carries : Verdict → ℕ → Bool
carries (v.LostRequest m) n = nat_lt n m
carries (v.LostReply m) n = nat_le n m
carries (v.RefusedDevice m code) n = nat_le n m
carries (v.Interface w) n = is_interface_done w
carries _ n = false

-- its request or its reply was lost in the exchange
abbrev pub is_lost_at : Verdict → ℕ → Bool
is_lost_at (v.LostRequest m) n = m == n
is_lost_at (v.LostReply m) n = m == n
is_lost_at _ n = false

-- its request was made, and perhaps lost
abbrev pub is_asked_at : Verdict → ℕ → Bool
is_asked_at w n = carries w n || is_lost_at w n

-- the device refused the exchange
abbrev pub is_refused_at : Verdict → ℕ → Bool
is_refused_at (v.RefusedDevice m code) n = m == n
is_refused_at _ n = false

-- the device was written to, reset or updated
abbrev pub changes_device : Verdict → Bool
changes_device (v.Interface (iv.Written i state)) = true
changes_device (v.Interface (iv.Flr i state)) = true
changes_device (v.Interface (iv.Firmware i state)) = true
changes_device _ = false
