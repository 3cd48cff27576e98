use Rattle.std.proofs.Common.{refl}
use Rattle.command_line.proofs.table.command_named.Goals as goal

pub entry_named-requires : goal.entry_named-requires
entry_named-requires c = (
  record { named = refl; taking = refl },
  (
    record { named = refl; taking = refl },
    (
      record { named = refl; taking = refl },
      (
        record { named = refl; taking = refl },
        (
          record { named = refl; taking = refl },
          (
            record { named = refl; taking = refl },
            (
              record { named = refl; taking = refl },
              (record { named = refl; taking = refl }, (record { named = refl; taking = refl }, tt)),
            ),
          ),
        ),
      ),
    ),
  ),
)
