-- The topology of generated events.
use Rattle.std.specs.Prelude.{ℕ, ◌/◌, ◌%◌, zero, suc, false, List, [], ◌∷◌, ◌++◌, replicate, Some, None}
use Rattle.ide_types.specs.declared.interface.InterfacePlan.{InterfacePlan}
use Rattle.ide_types.specs.declared.plan.LinkPlan.{LinkPlan}
use Rattle.ide_types.specs.declared.plan.Plan.{Plan}
use Rattle.ide_types.specs.declared.stream.Selector.TheVariants.{Selective}
use Rattle.ide_types.specs.declared.stream.StreamPlan.{StreamPlan}

-- the byte of this weight
abbrev pub byte_of_weight : ℕ → ℕ → ℕ
byte_of_weight n weight = n / weight % 256

-- 24 zero bytes, and the number in 8 bytes, most significant first
abbrev pub key_numbered : ℕ → List ℕ
key_numbered n =
    replicate 24 0
    ++ byte_of_weight n 72057594037927936 ∷ byte_of_weight n 281474976710656 ∷ byte_of_weight n 1099511627776
    ∷ byte_of_weight n 4294967296
    ∷ byte_of_weight n 16777216 ∷ byte_of_weight n 65536 ∷ byte_of_weight n 256 ∷ byte_of_weight n 1
    ∷ []

-- the keys of the numbers from 0 on, so many of them
unfoldable pub keys_below : ℕ → List (List ℕ)
keys_below zero = []
keys_below (suc n) = keys_below n ++ key_numbered n ∷ []

-- a selective stream of requester 0100h and of the addresses from 40000000h to 400fffffh
abbrev pub the_stream : StreamPlan
the_stream = record {
  id = 5;
  aggregation = 1;
  closed = false;
  selector = Selective (Some (record { base = 256; limit = 256 }))
      ((record { base = 1073741824; limit = 1074790399 }) ∷ [])
      false;
}

abbrev pub the_interface : InterfacePlan
the_interface = record {
  requester = 256;
  stream = 5;
  flags = 0;
  offset = 0;
  command = 6;
  cache_line = 16;
  msix = 0;
  lnr = 0;
  tph = 0;
  pasid = 0;
  ats = 0;
  reads = false;
  info = replicate 64 0;
  bars = (record { base = 1073741824; pages = 16; attributes = 0 }) ∷ [];
}

abbrev pub the_link : LinkPlan
the_link = record {
  nonces = keys_below 1024;
  streams = the_stream ∷ [];
  interfaces = the_interface ∷ [];
  hop = None;
}

abbrev pub the_plan : Plan
the_plan = record {
  version = 1;
  portion = 64;
  units_per_key = 4294967296;
  pool = keys_below 6144;
  links = the_link ∷ [];
  memory = (record { base = 268435456; size = 65536 }) ∷ [];
  peers = [];
}
