-- A run whose machine is traced, and then shown.
use Rattle.std.proofs.Common.{◌≡◌, ℕ, List, [], ◌∷◌, ◌++◌, Option, refl, sym, ◌∙◌, ap, subst, append_assoc}
use Rattle.std.proofs.lemmas.List.{append-nil}
use Rattle.std.specs.Io.KnownBytes.{Appends, IsAtEnd}
use Rattle.machine_model.specs.declared.call.Call.{Call}
use Rattle.heap_program.specs.Answering.{IsAnswering}
use Rattle.heap_program.specs.Flushed.{IsAllFlushed}
use Rattle.heap_program.specs.Lines.{items_of}
use Rattle.heap_program.specs.Responses.{HasResponded}
use Rattle.heap_program.specs.Stop.{HasRead}
use Rattle.heap_program.proofs.Known.{appends_more}
use Rattle.heap_program.proofs.Wholes.{read_whole}
use Rattle.memory_image.specs.declared.tracing.Traced.{Traced}
use Rattle.memory_image.specs.Image.{image_text}
use Rattle.memory_image.specs.Imaged.{IsImaged}
use Rattle.memory_image.specs.Traced.{AreTraced, IsTracing, behind, probed_address}
use Rattle.memory_image.specs.TracedLaws.{tracing_on}

-- an item is answered, and the walk of a probe stands after that
pub traced_one : (x y : Traced) (item : Option Call) (before middle after last : List ℕ) →
    HasResponded IsAnswering x.machine (item ∷ []) before middle y.machine
    → behind (probed_address item) y.machine ≡ last → after ≡ middle ++ last → HasResponded IsTracing x (item ∷ []) before after y
traced_one x y item before middle after last h is written = record {
  told = h.told ++ last;
  output = written ∙ ap (λ (l : List ℕ). l ++ last) h.output ∙ append_assoc before h.told last;
  responses = (
    y.machine,
    h.told ++ last,
    [],
    sym (append-nil (h.told ++ last)),
    record { answer = h.told; answered = h.responses; text = ap (λ (l : List ℕ). h.told ++ l) (sym is) },
    (refl, refl),
  );
}

-- the last line is answered, and the image stands after all
pub imaged : (first last end : Traced) (line : List ℕ) (l l1 t t1 t2 : Option (List ℕ)) (flushed : Option ℕ) (n : ℕ)
    (before after output : List ℕ) → HasRead IsTracing first last line l l1 t t1 n → IsAtEnd l1
    → before ≡ [] → HasResponded IsTracing last (items_of line) before after end →
    output ≡ after ++ image_text end.machine → Appends t1 t2 output → IsAllFlushed t2 flushed →
    IsImaged first.machine l l1 t t2 flushed end.machine
imaged first last end line l l1 t t1 t2 flushed n before after output h done empty k is written all =
    let a = h.responded in
    let image = image_text end.machine in
    let items : items_of h.bytes ≡ a.items ++ items_of line =
    ap items_of (sym (append-nil h.bytes)) ∙ a.read [] ∙ ap (λ (rest : List ℕ). a.items ++ items_of rest) (append-nil line) in
    let both = tracing_on first last end a.items (items_of line) h.told k.told a.responses k.responses in
    let text : output ≡ k.told ++ image = is ∙ ap (λ (l : List ℕ). l ++ image) (k.output ∙ ap (λ (l : List ℕ). l ++ k.told) empty) in
    record {
      input = h.bytes;
      read = read_whole l l1 h.bytes h.consumed done;
      told = h.told ++ k.told;
      traced = subst (λ (its : List (Option Call)). AreTraced first.machine its (h.told ++ k.told) end.machine) (sym items) both;
      written = subst (Appends t t2) (sym (append_assoc h.told k.told image))
          (appends_more t t1 t2 h.told (k.told ++ image) h.appended (subst (Appends t1 t2) text written));
      flushed_all = all;
    }
