-- The demands of the calls themselves, from what each call promises.
use Rattle.std.specs.Prelude.{Some, None, Ok}
use mathlib.Core.Path.{◌≡◌, sym, ap, subst, ◌∙◌}
use mathlib.Core.List.{List}
use Prim.Native.Nat.{ℕ, ◌<◌}
use native.Mathlib.Omega.{arith}
use lib.ListN.{length}
use Rattle.layout.specs.Layout.{share_layout}
use Rattle.layout.specs.Width.{bytes_of}
use Rattle.layout.proofs.Places.{share_lawful}
use Rattle.layout.proofs.Widths.{symbols_bytes}
use Rattle.generator.specs.declared.Header.{Header}
use Rattle.generator.specs.Records.{header_of, width}
use Rattle.generator.proofs.Widths.{width_some}
use Rattle.generator.proofs.Answered.{done_is, value_is}
use Rattle.refusals.specs.Faults.{fault_of}
use Rattle.belongs.specs.Promise.{belongs_fault, BelongsSays}
use Rattle.recover.specs.Promise.{recover_fault, rebuild_fault, RecoverSays, RebuildSays}
use Rattle.update.specs.Promise.{update_fault, UpdateSays}
use Rattle.encode.specs.Promise.{encode_fault, EncodeSays}
use Rattle.refusals.specs.Accepted.{SymbolRows}
use Rattle.recover.proofs.Accepts.{recover_accepts, rebuild_accepts}
use Rattle.belongs.proofs.Accepts.{belongs_accepts}
use Rattle.encode.proofs.Accepts.{encode_accepts}
use Rattle.refusals.proofs.OnRecord.{none_met}
use Rattle.blocks.specs.Blocks.{share_of, shares_of, updated, first_wrong, MessageFor}
use Rattle.blocks.specs.Bytes.{encoded_bytes, updated_bytes, RecoveredBytes, RebuiltBytes, wrong_lane}
use Rattle.blocks.proofs.Answered.{yes_means, no_means}
use Rattle.blocks.proofs.Bytes.{altered_symbols}
use Rattle.recover.proofs.Laws.{recover_law, rebuild_law}
use Rattle.blocks.proofs.Shares.{length_share}
use Rattle.blocks.proofs.Words.{wrong_most}
use Rattle.demands.specs.Coding.{Symbols}
use Rattle.demands.specs.Calls.{read, EncodeDone, RecoverDone, RebuildDone, AllWords, SmallestWrong, UpdateDone, CallDemands}
use Rattle.demands.proofs.Coding.{code_demands}
use Rattle.demands.proofs.Updates.{update_demands}

-- rows of symbols that no number turned away
pub rows_are : (h : Header) (rows l : ℕ) (s : List ℕ) → SymbolRows h rows l s → Symbols h rows l s
rows_are h rows l s r = record { long = r.long; symbols = r.symbols }

-- a buffer that was written as the bytes of symbols is read as these
pub read_written : (h : Header) (out xs : List ℕ) → out ≡ bytes_of (width h) xs → read h out ≡ xs
read_written h out xs e = ap (read h) e ∙ symbols_bytes (width h) xs (width_some h)

module _ (rec : List ℕ) (l : ℕ) where
  -- the record's header
  abbrev h : Header
  h = header_of rec

  encode : (message out out' : List ℕ) → EncodeSays rec l message out out' (Ok tt) → EncodeDone h l message out'
  unfolding encoded_bytes
  encode message out out' says =
      let none = done_is (fault_of rec (λ h. encode_fault h l (length out) message)) _ says.promise.answered in
      let (sound, own) = none_met rec (λ h. encode_fault h l (length out) message) none in
      let (rows, long) = encode_accepts h sound l (length out) message own in
      let now : read h out' ≡ shares_of share_layout h l (read h message) = read_written h out' _ (rw none at says.promise.written) in
      let code = code_demands h sound in
      record {
        lanes = λ t inside. rw now (code.encodes l (read h message) t inside);
        words = λ t inside. rw now (code.word l (read h message) (rows_are h h.k l (read h message) rows.symbol_rows) t inside);
      }

  module _ (nodes shares : List ℕ) where
    recover : (out out' : List ℕ) → RecoverSays rec l nodes shares out out' (Ok tt) → RecoverDone h l nodes shares out'
    unfolding RecoveredBytes
    recover out out' says =
        let none = done_is (fault_of rec (λ h. recover_fault h l nodes shares (length out))) _ says.promise.answered in
        let (sound, own) = none_met rec (λ h. recover_fault h l nodes shares (length out)) none in
        let (listed, long) = recover_accepts h sound l nodes shares (length out) own in
        let (m, is, written) = rw none at (recover_law share_lawful rec l nodes shares out out' (Ok tt) says) in
        let same : read h out' ≡ m = read_written h out' m written in
        let code = code_demands h sound in
        record {
          encodes = rw same is;
          one = λ u other. code.one l nodes (read h shares) u m listed.different other is ∙ sym same;
          returns = λ u symbols e. same ∙ code.returns l nodes u m listed.different symbols (subst (λ (x : List ℕ). MessageFor share_layout h l nodes x m) e is);
        }

    rebuild : (target : ℕ) (out out' : List ℕ) → RebuildSays rec l nodes shares target out out' (Ok tt) → RebuildDone h l nodes shares target out'
    unfolding RebuiltBytes
    rebuild target out out' says =
        let none = done_is (fault_of rec (λ h. rebuild_fault h l nodes shares target (length out))) _ says.promise.answered in
        let (sound, own) = none_met rec (λ h. rebuild_fault h l nodes shares target (length out)) none in
        let (listed, node, long) = rebuild_accepts h sound l nodes shares target (length out) own in
        let (m, is, written) = rw none at (rebuild_law share_lawful rec l nodes shares out out' (Ok tt) target says) in
        let same : read h out' ≡ share_of h l m target = read_written h out' (share_of h l m target) written in
        let code = code_demands h sound in
        record {
          some = (m, is);
          long = ap length same ∙ length_share h l m target;
          symbols = λ u other t inside.
              let equal : m ≡ u = code.one l nodes (read h shares) m u listed.different is other in
              rw (same, equal) (code.rebuilds l u target t node inside);
        }

  module _ (shares : List ℕ) where
    passes : BelongsSays rec l shares (Ok None) → AllWords h l shares
    unfolding wrong_lane
    passes says =
        let (none, all) = yes_means (fault_of rec (λ h. belongs_fault h l shares)) l (wrong_lane share_layout h l shares) says.promise.answered in
        let (sound, own) = none_met rec (λ h. belongs_fault h l shares) none in
        let rows = belongs_accepts h sound l shares own in
        λ t inside. ((code_demands h sound).passes l (read h shares) (rows_are h h.n l (read h shares) rows.symbol_rows)).0 all t inside

    names : (wrong : ℕ) → BelongsSays rec l shares (Ok (Some wrong)) → SmallestWrong h l shares wrong
    unfolding wrong_lane
    names wrong says =
        let (none, at, other) = no_means (fault_of rec (λ h. belongs_fault h l shares)) l (wrong_lane share_layout h l shares) wrong says.promise.answered in
        let (sound, own) = none_met rec (λ h. belongs_fault h l shares) none in
        let rows = belongs_accepts h sound l shares own in
        let is : first_wrong share_layout h l (read h shares) ≡ wrong = at in
        let inside : first_wrong share_layout h l (read h shares) < l = omega (arith, wrong_most share_layout h l (read h shares)) in
        let (no_such_word, smaller) = rw is at ((code_demands h sound).names l (read h shares) (rows_are h h.n l (read h shares) rows.symbol_rows) inside) in
        record {
          lane = omega arith;
          no_such_word = no_such_word;
          smaller = smaller;
        }

  update : (r t old new : ℕ) (shares shares' : List ℕ) (count : ℕ) → UpdateSays rec l r t old new shares shares' (Ok count) → UpdateDone h shares shares' l r t old new count
  unfolding updated_bytes
  update r t old new shares shares' count says =
      let none = done_is (fault_of rec (λ h. update_fault share_layout h l r t old new shares)) _ says.promise.answered in
      let (sound, own) = none_met rec (λ h. update_fault share_layout h l r t old new shares) none in
      let written = rw none at says.promise.written in
      let now : read h shares' ≡ updated share_layout h l r t old new (read h shares) = read_written h shares' _ written in
      record {
        change = rw now ((update_demands h sound).updates shares l r t old new own);
        reports = value_is _ _ says.promise.answered ∙ altered_symbols h share_layout l r t old new shares shares' written;
      }

pub call_demands : CallDemands
call_demands = record { encode = encode; recover = recover; rebuild = rebuild; passes = passes; names = names; update = update }
