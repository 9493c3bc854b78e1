-- The laws of every history in which each verdict is the one that is due, by what they are about.
use Rattle.std.specs.Prelude.{◌≡◌, ◌≤◌, Some, length, ℕ}
use Rattle.ide_types.specs.declared.plan.Plan.{Plan}
use Rattle.ide_types.specs.Fits.{FitsPlan}
use Rattle.spec_keys.specs.History.{History}
use Rattle.spec_interfaces.specs.Sites.{Site, site_at}
use Rattle.spec_links.specs.Cause.{CauseLaw}
use Rattle.spec_links.specs.Numbers.{NumbersFresh}
use Rattle.law_bytes.specs.{AnswerLaw, AnswersLaw, EffectLaw, FailedLaw, KeyStreamFresh}
use Rattle.law_bytes.specs.{LockLaw, NamedLaw, OneLockPerKey, ReportsAreShown, UnlockedIsScrubbed, ViewsAreTrue}
use Rattle.law_sending.specs.Choice.{ChoiceLaw}
use Rattle.law_sending.specs.Covered.{CoverLaw}
use Rattle.law_sending.specs.Trust.{ExactTrustLaw}
use Rattle.law_sending.specs.Sends.{SendLaw}
use Rattle.law_sending.specs.Origins.{SealedComesFrom}
use Rattle.spec_keys.specs.Laws.{KeysFollowOperations, NeverAgain, OperationsSettle, SetGoFindsKey, StaysSecure}
use Rattle.law_key_use.specs.InUse.{KeysInUse}
use Rattle.law_key_use.specs.Stops.{StopTakesKeys}
use Rattle.law_key_use.specs.Refreshes.{RefreshTakes}
use Rattle.law_key_use.specs.Limits.{KeyLimits}
use Rattle.law_key_use.specs.Forgeries.{ForgeriesAreOfCipher}
use Rattle.spec_links.specs.Laws.{DrawsNeverFall, OrderIsNoForgery, WholeLaw}
use Rattle.law_honest.specs.ByOrder.{WholeLawByOrder}
use Rattle.law_honest.specs.Honest.{FreshLaw, HonestDeliveryLaw, HonestLaw, PassLaw}
use Rattle.law_delivery.specs.PostedCounts.{CountLaw}
use Rattle.law_delivery.specs.LocalLaws.{LocalDeliveryLaw, LocalOrderLaw, LocalPrefixLaw}
use Rattle.spec_interfaces.specs.Laws.{BindLaw, RunLaw, ViewHolds}
use Rattle.law_states.specs.States.{LeavingLaw, ShownStateLaw, StateLaw}
use Rattle.law_states.specs.Nonces.{NonceLaw}
use Rattle.law_states.specs.Errors.{ErrorLaw}
use Rattle.law_states.specs.Views.{ViewLaw}
use Rattle.law_bindings.specs.OneLock.{OneLockPerPeerKey, OneLockPerStoredKey, TrustedOnAllStreams}
use Rattle.law_memory.specs.Origin.{MemoryLaw}
use Rattle.law_memory.specs.ReadLaws.{ReadLaw}
use Rattle.law_memory.specs.LocalLaws.{LocalOriginLaw, LocalReadOriginLaw}
use Rattle.law_bytes.specs.LocalLaws.{LocalByteOriginLaw, LocalMmioOriginLaw}
use Rattle.law_mmio.specs.Mmio.{MmioLaw}
use Rattle.law_device_reads.specs.DeviceReads.{DeviceReadLaw}
use Rattle.law_device_reads.specs.Exact.{DeviceEffectLaw, RespondLaw}
use Rattle.law_device_reads.specs.Exposure.{ExposureLaw}
use Rattle.law_device_reads.specs.Origins.{DeviceReadOriginLaw, ResponseOriginLaw}
use Rattle.law_bindings.specs.Asked.{BindingsAreAsked, BindingsLast, StopsBreakViews, VerdictsTellBindings}
use Rattle.law_bindings.specs.Keys.{BindingsHoldKeys, PeersAreNeverStale}
use Rattle.law_bindings.specs.OverPeers.{PeerOriginLaw, PeerStoreLaw}
use Rattle.law_bindings.specs.StreamAlone.{StreamsStandAlone}
use Rattle.law_hops.specs.LocalLaws.{LocalHopLaw}
use Rattle.law_changes.specs.Switches.{ExactThroughLaw}
use Rattle.law_crossings.specs.HopTrust.{HopTrustLaw}
use Rattle.law_crossings.specs.HopOrder.{CrossesBehindPosted, CrossesSome}
use Rattle.law_changes.specs.Inert.{InertLaw}
use Rattle.law_changes.specs.Resets.{ResetLaw}
use Rattle.law_changes.specs.StreamsApart.{ApartLaw}
use Rattle.law_outcomes.specs.Failures.{FailLaw}
use Rattle.law_outcomes.specs.Blocks.{BlockLaw}
use Rattle.law_outcomes.specs.Shown.{ShownLaw}
use Rattle.law_outcomes.specs.Operations.{OperationLaw}
use Rattle.law_outcomes.specs.Recovery.{RecoveryLaw}

-- of every interface of the plan, what the manager's view says of it holds
abbrev pub TrustedPacketsFitView : Plan → History → Type 0
TrustedPacketsFitView plan h = (x : Site) → site_at plan x.number ≡ Some x → ViewHolds plan h x

-- what the laws suppose of a history
pub record IsDue (plan : Plan) (h : History) : Type 0 where
  -- the plan is within every bound and rule of a topology
  pub fits : FitsPlan plan
  -- each verdict is the one that is due after the events before it
  pub cause : CauseLaw plan h
  -- there are at most 2^32 events
  pub few : length h ≤ 4294967296

-- what is sealed on every line: a link, a segment of a hop, or a stream between devices
pub record SealingLaws (plan : Plan) (h : History) : Type 0 where
  -- no key is used twice with one IV: packets that have both are of one unit
  pub numbers_fresh : NumbersFresh plan h
  -- no byte of key stream is used twice: ranges of one key and IV do not meet, and no counter block comes twice
  pub keystream_fresh : KeyStreamFresh plan h
  -- a TLP goes out on the stream that takes it, by range, default, class or hop, and in clear exactly if none does
  pub choice_law : ChoiceLaw plan h
  -- exactly when no TLP goes out in clear at the host's port of a link, and none of a requester ID at its device's
  pub cover_law : (link : ℕ) → CoverLaw plan link
  -- T of each packet: as the host asks; at a device as its read had it, or if its owner runs and is bound; not on a hop
  pub exact_trust_law : ExactTrustLaw plan h
  -- what is sent, forwarded or answered is sealed exactly if all is in order; else the first that is not is named
  pub send_law : SendLaw plan h
  -- only sends, forwards and answers at either end seal packets: of a TLP given or waiting, a completion, or none
  pub sealed_comes_from : SealedComesFrom plan h

-- keys
pub record KeysLaws (plan : Plan) (h : History) : Type 0 where
  -- an operation on keys ends in the key state of one without losses
  pub operations_settle : OperationsSettle h
  -- no move of a refresh, which links alone have, takes a port out of Secure
  pub stream_stays_secure : StaysSecure h
  -- a draw is kept in one key set of a place at most and on one stream, and is On where its GO was acknowledged
  pub keys_follow_operations : KeysFollowOperations h
  -- each GO that reaches a place finds its draw kept there
  pub set_go_finds_key : SetGoFindsKey h
  -- a draw that was On at a place and then kept in neither set is never kept there again
  pub ended_keys_stay_out : NeverAgain h
  -- each packet is sealed under the least draw On there, in the set of its K, and each unit got under one On there
  pub keys_in_use : KeysInUse plan h
  -- where a stop was acknowledged no key stands, none comes, and nothing is sealed, held or accepted
  pub stop_takes_keys : StopTakesKeys h
  -- after a refresh only units that were open go on under an older key, and units begin under the newest
  pub refresh_takes : RefreshTakes plan h
  -- no key seals more units than the plan's limit, and no unit has more packets than its stream's mode
  pub key_limits : KeyLimits plan h
  -- a tag is forged exactly where it verifies on an IV, authenticated bytes and a ciphertext that its key never sealed
  pub forgeries_are_of_cipher : ForgeriesAreOfCipher plan h

-- what is delivered on every line
pub record DeliveryLaws (plan : Plan) (h : History) : Type 0 where
  -- the draws of accepted units never fall
  pub draws_never_fall : DrawsNeverFall h
  -- what comes unchanged and next in order is taken, if its key is Live and posted counts and older draws allow it
  pub whole_law : WholeLaw plan h
  -- the same without counts, if the posted packets before it were accepted, and what older draws brought was sealed
  pub whole_law_by_order : WholeLawByOrder plan h
  -- established, and then refreshed at one event each, a stream takes what comes in order, unforged, and does not fail
  pub honest_law : HonestLaw plan h
  -- and if all of it came, what was delivered is what was sent
  pub honest_delivery : HonestDeliveryLaw plan h
  -- a stream that was established at one event is just established at both ends
  pub fresh_law : FreshLaw plan h
  -- a pass brings the packet that it names, unaltered, to the other end of its line
  pub pass_law : PassLaw plan h
  -- what arrives unchanged and next in order is no forgery
  pub order_is_no_forgery : OrderIsNoForgery plan h
  -- the posted counts that a sub-stream got never pass the posted packets that were got
  pub count_law : CountLaw plan h
  -- if no tag was forged, a sub-stream got under a draw a prefix of what was sealed and, if closed, older draws first
  pub prefix_law : LocalPrefixLaw plan h
  -- and delivered a prefix of the TLPs that were sent
  pub delivery_law : LocalDeliveryLaw plan h
  -- if no tag was forged, non-posted packets and completions came after the posted packets sealed before them
  pub order_law : LocalOrderLaw plan h
  -- all that supposes that no tag was forged stands of a stream of which none was, whatever was forged on others
  pub streams_stand_alone : StreamsStandAlone plan h

-- the interfaces of devices
pub record InterfacesLaws (plan : Plan) (h : History) : Type 0 where
  -- while it is locked or in RUN its registers are those of the lock, and what its lock forbids takes it to ERROR
  pub run_law : RunLaw plan h
  -- in RUN it was reported since its lock: a verdict shows the report of exactly the registers that are locked
  pub reports_are_shown : ReportsAreShown plan h
  -- locked or in RUN, the stream of its lock is Secure at its device, and so is each that it is bound to
  pub lock_law : LockLaw plan h
  -- whatever takes it back to CONFIG_UNLOCKED clears each byte of its BARs that are not open
  pub unlocked_is_scrubbed : UnlockedIsScrubbed plan h
  -- exactly what locks, starts, unlocks and fails it: nothing else changes its state
  pub state_law : StateLaw plan h
  -- a verdict that shows its state shows the one after the event
  pub shown_state_law : ShownStateLaw plan h
  -- locked or in RUN, it is in ERROR once a stream of it leaves Secure at its device, and unlocked at a reset
  pub leaving_law : LeavingLaw plan h
  -- two locks of a link take two places of its nonces, in order, and the verdict shows that of its place
  pub nonce_law : NonceLaw plan h
  -- in ERROR it seals no T, takes no trusted write, is bound to nothing, and leaves by a halt or a reset alone
  pub error_law : ErrorLaw plan h

-- the manager's views of them
pub record ViewsLaws (plan : Plan) (h : History) : Type 0 where
  -- packets with T on its link's stream alone, and its RUN, fit the view
  pub trusted_packets_fit_view : TrustedPacketsFitView plan h
  -- Unlocked means CONFIG_UNLOCKED at the device, Locked CONFIG_LOCKED or ERROR, Running RUN or ERROR
  pub views_are_true : ViewsAreTrue plan h
  -- exactly which verdicts and stops change a view, and to what
  pub view_law : ViewLaw plan h
  -- packets with T on every stream fit the view, those on streams between devices too
  pub trusted_on_all_streams : TrustedOnAllStreams plan h

-- trusted memory, and trusted reads
pub record TrustedMemoryLaws (plan : Plan) (h : History) : Type 0 where
  -- exactly the admitted writes are applied; a byte that is shown is that of the last of them that names it, or 0
  pub memory_law : MemoryLaw plan h
  -- exactly which packets are queued at hosts, find no room, are stored or wait; the first BAR that can claims a write
  pub effect_law : EffectLaw plan h
  -- answers take the reads of a link in the order in which they were queued, with the bytes that stand then
  pub read_law : ReadLaw plan h
  -- the last packet that an answer seals is the completion of its read, and ends its unit
  pub answer_law : AnswerLaw plan h
  -- an answer goes to a read that was queued under the lock that stands
  pub answers_law : AnswersLaw plan h
  -- what is applied and queued of one interface under one draw belongs to one lock
  pub one_lock_per_key : OneLockPerKey plan h
  -- if no tag was forged, an admitted write was sealed by its interface, in RUN under the lock that it has now
  pub origin_law : LocalOriginLaw plan h
  -- and so was each read that was queued
  pub read_origin_law : LocalReadOriginLaw plan h
  -- a byte that is shown and is not 0 was, if no tag was forged, sent by the interface of its write, in that RUN
  pub byte_origin : LocalByteOriginLaw plan h

-- the memory behind the base address registers of interfaces
pub record DeviceMemoryLaws (plan : Plan) (h : History) : Type 0 where
  -- a byte that is shown is that of the last write stored there since it was set to 0; if not open, it takes T only
  pub mmio_law : MmioLaw plan h
  -- what is stored with T of one interface under one draw is stored under one lock
  pub one_lock_per_stored_key : OneLockPerStoredKey plan h
  -- if no tag was forged, a stored write with T was sent with T by the host, or by a bound owner in RUN, for this RUN
  pub mmio_origin_law : LocalMmioOriginLaw plan h

-- reads of that memory, which its device answers
pub record DeviceReadsLaws (plan : Plan) (h : History) : Type 0 where
  -- responses take a device's reads in the order in which they were queued, each with the bytes that `mmio` shows then
  pub device_read_law : DeviceReadLaw plan h
  -- exactly which reads a device queues, and by which cause it blocks the others that it would answer
  pub device_effect_law : DeviceEffectLaw plan h
  -- exactly when a read that waits at a device is dropped, and by which cause, and when its answer waits for a refresh
  pub respond_law : RespondLaw plan h
  -- a byte that a lock guards leaves its device by a response only with T, in RUN, and to a read of that very lock
  pub exposure_law : ExposureLaw plan h
  -- if no tag was forged, a queued read with T was sent with T by the host, or by a bound owner in RUN, for this RUN
  pub device_read_origin_law : DeviceReadOriginLaw plan h
  -- if no tag was forged, a completion with T at the host has the bytes that stood in the RUN in which they were asked
  pub response_origin_law : ResponseOriginLaw plan h

-- streams between devices, and the interfaces that are bound to them
pub record DeviceStreamsLaws (plan : Plan) (h : History) : Type 0 where
  -- an interface is bound only while it is locked or in RUN
  pub bind_law : BindLaw plan h
  -- each binding was asked for by a bind under the lock that stands, which allows it, and the manager counts it
  pub bindings_are_asked : BindingsAreAsked plan h
  -- from a `bound` verdict on it stands till the lock ends or an unbind comes
  pub bindings_last : BindingsLast plan h
  -- `bound` binds the interface to the stream, and `unbound` ends that
  pub verdicts_tell_bindings : VerdictsTellBindings plan h
  -- a stop of the stream leaves the view of each interface that is bound to it Broken
  pub stops_break_views : StopsBreakViews plan h
  -- while it stands its floor is the stream's draw, which is On at the device, and no other draw is kept
  pub bindings_hold_keys : BindingsHoldKeys plan h
  -- no packet that is accepted there is blocked as stale
  pub peers_are_never_stale : PeersAreNeverStale plan h
  -- packets with T of one interface under one draw were sealed under one lock
  pub one_lock_per_peer_key : OneLockPerPeerKey plan h
  -- if no tag was forged, a packet with T was sealed for a bound owner in RUN, that was bound in no other lock since
  pub peer_origin_law : PeerOriginLaw plan h
  -- and if its write is stored, the target is in RUN and bound, and was in no other RUN since
  pub peer_store_law : PeerStoreLaw plan h

-- hops of links, since the last reset of their link
pub record HopsLaws (plan : Plan) (h : History) : Type 0 where
  -- what a switch sealed are the first TLPs that it had accepted; so it is beyond it, with one draw and no forged tag
  pub hop_law : LocalHopLaw plan h
  -- bytes go through a switch exactly if they are of another stream than its hop's
  pub exact_through_law : ExactThroughLaw plan h
  -- nothing that comes on a segment is applied, queued or stored with T, no answer goes out, and a device seals no T
  pub hop_trust_law : HopTrustLaw plan h
  -- if no tag was forged, what came behind it was sealed before it, in that order, under any number of keys
  pub hop_order_law : CrossesSome plan h
  -- with one draw and no forged tag what is not posted came behind it after the posted TLPs that were sealed before
  pub hop_posted_law : CrossesBehindPosted plan h

-- what changes nothing, and what a reset leaves
pub record StillnessLaws (plan : Plan) (h : History) : Type 0 where
  -- a verdict leaves all as it was if it finds nothing, takes nothing, refuses an event before its first exchange, or
  -- is `packet`, `status`, `view`, `memory`, `mmio` or `empty`
  pub inert_law : InertLaw plan h
  -- a reset of a link at its ends leaves nothing there, unlocks the interfaces of its link, and leaves all other ends
  pub reset_law : ResetLaw plan h
  -- an event that does not act on a stream leaves its keys, its failures and its packets
  pub streams_apart : ApartLaw plan h

-- what verdicts say
pub record OutcomesLaws (plan : Plan) (h : History) : Type 0 where
  -- a verdict is `none` exactly if something that its event names does not exist
  pub named_law : NamedLaw plan h
  -- while a stream is failed at a port nothing of it is sealed, held, accepted or failed there
  pub failed_law : FailedLaw plan h
  -- an arrival fails a stream exactly if a check fails, and the first that does is named
  pub fail_law : FailLaw plan h
  -- exactly which packets and answers are blocked or dropped, by the first cause
  pub block_law : BlockLaw plan h
  -- statuses, dumps, draws, views, states, needs and nonces that are shown are those of the history
  pub shown_law : ShownLaw plan h
  -- an establish, a refresh, a stop, a halt, a lock, a report and a start without a loss succeed where they may
  pub operation_law : OperationLaw plan h
  -- after anything, halt, stop, establish, flr, lock, report and start bring an interface to RUN, if they can
  pub recovery_law : RecoveryLaw plan h

-- all of them; those that suppose that no tag was forged say of which sub-streams and draws
pub record Laws (plan : Plan) (h : History) : Type 0 where
  pub sealing : SealingLaws plan h
  pub keys : KeysLaws plan h
  pub delivery : DeliveryLaws plan h
  pub interfaces : InterfacesLaws plan h
  pub views : ViewsLaws plan h
  pub trusted_memory : TrustedMemoryLaws plan h
  pub device_memory : DeviceMemoryLaws plan h
  pub device_reads : DeviceReadsLaws plan h
  pub device_streams : DeviceStreamsLaws plan h
  pub hops : HopsLaws plan h
  pub stillness : StillnessLaws plan h
  pub outcomes : OutcomesLaws plan h

abbrev pub LawsHold : Type 0
LawsHold = (plan : Plan) (h : History) → IsDue plan h → Laws plan h
