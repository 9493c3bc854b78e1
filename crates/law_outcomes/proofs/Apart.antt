-- By the topology's registers the BARs of an interface overlap exactly if the topology's BARs do.
use Rattle.std.proofs.Common.{◌≡◌, ℕ, suc, zero, ◌≤◌, false, List, [], ◌∷◌, ◌++◌, length, refl, arith}
use Rattle.std.proofs.lemmas.Bool.Decides.{nat_tests}
use Rattle.std.specs.Prelude.{replicate}
use Rattle.std.specs.List.{list_any}
use Rattle.ide_types.specs.declared.interface.BarPlan.{BarPlan}
use Rattle.ide_types.specs.declared.interface.InterfacePlan.{InterfacePlan}
use Rattle.interface_state.specs.RegisterValues.{planned_registers, planned_base}
use Rattle.interface_state.specs.Bars.{bars_of, any_overlap, bars_overlap, bar_at}

-- a BAR without pages
abbrev no_bar : BarPlan
no_bar = record { base = 0; pages = 0; attributes = 0 }

none_overlaps : (bar : BarPlan) → bars_overlap bar no_bar ≡ false
none_overlaps bar = grind (arith, nat_tests)

none_behind : (n : ℕ) (bar : BarPlan) (bars : List BarPlan)
    → list_any (bars_overlap bar) (bars ++ replicate n no_bar) ≡ list_any (bars_overlap bar) bars
none_behind zero bar [] = refl
none_behind (suc n) bar [] = rw (none_overlaps bar) (none_behind n bar [])
none_behind n bar (b ∷ bars) = rw (none_behind n bar bars) refl

none_apart : (n : ℕ) (bars : List BarPlan) → any_overlap (bars ++ replicate n no_bar) ≡ any_overlap bars
none_apart zero [] = refl
none_apart (suc n) [] = rw (none_behind n no_bar []) (none_apart n [])
none_apart n (b ∷ bars) = rw (none_behind n b bars, none_apart n bars) refl

abbrev bases_of : List BarPlan → List ℕ
bases_of bars = planned_base bars 0 ∷ planned_base bars 1 ∷ planned_base bars 2 ∷ planned_base bars 3
    ∷ planned_base bars 4 ∷ planned_base bars 5 ∷ []

abbrev six_of : List BarPlan → List BarPlan
six_of bars = bar_at bars (bases_of bars) 0 ∷ bar_at bars (bases_of bars) 1 ∷ bar_at bars (bases_of bars) 2
    ∷ bar_at bars (bases_of bars) 3 ∷ bar_at bars (bases_of bars) 4 ∷ bar_at bars (bases_of bars) 5 ∷ []

six_overlap : (bars : List BarPlan) → length bars ≤ 6 → any_overlap (six_of bars) ≡ any_overlap bars
six_overlap [] few = none_apart 6 []
six_overlap (a ∷ []) few = none_apart 5 (a ∷ [])
six_overlap (a ∷ b ∷ []) few = none_apart 4 (a ∷ b ∷ [])
six_overlap (a ∷ b ∷ c ∷ []) few = none_apart 3 (a ∷ b ∷ c ∷ [])
six_overlap (a ∷ b ∷ c ∷ d ∷ []) few = none_apart 2 (a ∷ b ∷ c ∷ d ∷ [])
six_overlap (a ∷ b ∷ c ∷ d ∷ e ∷ []) few = none_apart 1 (a ∷ b ∷ c ∷ d ∷ e ∷ [])
six_overlap (a ∷ b ∷ c ∷ d ∷ e ∷ f ∷ []) few = none_apart 0 (a ∷ b ∷ c ∷ d ∷ e ∷ f ∷ [])
six_overlap (a ∷ b ∷ c ∷ d ∷ e ∷ f ∷ g ∷ bars) few = absurd (omega arith)

pub planned_overlap : (plan : InterfacePlan) → length plan.bars ≤ 6
    → any_overlap (bars_of plan (planned_registers plan)) ≡ any_overlap plan.bars
planned_overlap plan few = six_overlap plan.bars few
