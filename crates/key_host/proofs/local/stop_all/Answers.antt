use Rattle.std.proofs.Common.{refl}
use Rattle.key_host.proofs.local.stop_all.Goals as goal

-- the twelve calls one after another: the port after each, with what the clause of that call says of it
pub returns : goal.returns
returns g c = (
  c.stop.new.port,
  c.stop.ensures,
  (
    c.stop-2.new.port,
    c.stop-2.ensures,
    (
      c.stop-3.new.port,
      c.stop-3.ensures,
      (
        c.stop-4.new.port,
        c.stop-4.ensures,
        (
          c.stop-5.new.port,
          c.stop-5.ensures,
          (
            c.stop-6.new.port,
            c.stop-6.ensures,
            (
              c.stop-7.new.port,
              c.stop-7.ensures,
              (
                c.stop-8.new.port,
                c.stop-8.ensures,
                (
                  c.stop-9.new.port,
                  c.stop-9.ensures,
                  (
                    c.stop-10.new.port,
                    c.stop-10.ensures,
                    (
                      c.stop-11.new.port,
                      c.stop-11.ensures,
                      (
                        c.stop-12.new.port,
                        c.stop-12.ensures,
                        refl,
                      ),
                    ),
                  ),
                ),
              ),
            ),
          ),
        ),
      ),
    ),
  ),
)
