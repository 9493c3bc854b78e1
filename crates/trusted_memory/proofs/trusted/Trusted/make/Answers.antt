use Rattle.std.proofs.Common.{◌∙◌, sym}
use Rattle.trusted_memory.proofs.Seen.{new_is_seen, byte_at-new}
use Rattle.trusted_memory.proofs.Turns.{byte_last_written-none}
use Rattle.trusted_memory.proofs.trusted.Trusted.make.Goals as goal

pub returns-clause-new : goal.returns-clause-new
returns-clause-new c = rw (c.in_ok-regions.ensures.items, c.new.ensures.empty, c.new-2.ensures.items)
    (new_is_seen c.args.regions.now)

pub returns-clause-stands : goal.returns-clause-stands
returns-clause-stands c = rw (c.in_ok-regions.ensures.items, c.new.ensures.empty)
    (λ a. byte_at-new c.args.regions.now a ∙ sym (byte_last_written-none a))
