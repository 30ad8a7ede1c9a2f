mod OneBit
