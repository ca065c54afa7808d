use Rattle.std.proofs.Common.{◌∙◌}
use Rattle.soft_driver.proofs.StoredBytes.{byte_of_client, byte_of_store}
use Rattle.soft_driver.proofs.memories.StoredMemories.byte.Goals as goal

pub returns-then-buffer-eq0 : goal.returns-then-buffer-eq0
returns-then-buffer-eq0 g c =
    c.byte.ensures ∙ byte_of_client c.args.self.now.objects.now (g.M.Memory.segments c.args.self.now.memory.now) c.args.buffer c.args.at c.if-buffer-eq0.true

pub returns-else-buffer-eq0 : goal.returns-else-buffer-eq0
returns-else-buffer-eq0 g c =
    c.buffer_byte.ensures ∙ byte_of_store c.args.self.now.objects.now (g.M.Memory.segments c.args.self.now.memory.now) c.args.buffer c.args.at c.if-buffer-eq0.false
